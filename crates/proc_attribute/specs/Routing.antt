-- What the calls below a RouteOnAttribute find.
use Rattle.std.specs.Prelude.{ℕ, List, [], Option, slice_get}
use Rattle.std.specs.Option.{option_map_or}
use Rattle.machine_model.specs.Making.{found_in}
use Rattle.process_session.specs.Bench.{Bench, bench_attributes}

-- what expressions find of the file that a session took first
abbrev pub uuid_at : Bench → ℕ → List ℕ
uuid_at bench place = option_map_or (λ source. source.uuid) (slice_get bench.sources place) []

abbrev pub found_of : Bench → List ℕ → Option (List ℕ)
found_of bench = found_in (record { attributes = bench_attributes bench 0; uuid = uuid_at bench 0; bytes = [] })
