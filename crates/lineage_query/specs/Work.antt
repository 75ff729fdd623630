-- How many events an index has of files: the measure of what a query may ask for.
use Rattle.std.specs.Prelude.{ℕ, List, length}
use Rattle.std.specs.List.{sum_by}
use Rattle.flowfile_record.specs.declared.event.Event.{Event}
use Rattle.prov_index.specs.Index.{numbers_naming}

-- how many numbers the lists of some files have together
abbrev pub work : List Event → List ℕ → ℕ
work events files = sum_by (λ file. length (numbers_naming events file)) files
