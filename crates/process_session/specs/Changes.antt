-- What the calls of a session change.
use Rattle.std.specs.Prelude.{ℕ, ◌+◌, ◌==◌, ◌&&◌, Bool, true, false, List, [], ◌∷◌, ◌++◌, length, fold, None, Some, unwrap_or, slice_get, slice_set, slice_range, if◌then◌else◌}
use Rattle.std.specs.Option.{option_map_or}
use Rattle.std.specs.FinMap.{empty, insert, remove}
use Rattle.flowfile_record.specs.Attributes.{AttributeMap, is_uuid, shared}
use Rattle.flowfile_record.specs.declared.worked.Body.{Body}
use Rattle.flowfile_record.specs.declared.worked.Body.TheVariants.{Whole, Part, New}
use Rattle.flowfile_record.specs.declared.worked.End.{End}
use Rattle.flowfile_record.specs.declared.worked.Origin.{Origin}
use Rattle.flowfile_record.specs.declared.worked.Origin.TheVariants.{Created, Received, Forked, Part as PartOf, Cloned, Joined}
use Rattle.process_session.specs.declared.file.File.{File}
use Rattle.process_session.specs.Bench.{Bench, bench_attributes, body_at, content_size, bench_bytes}

-- one file is another
unfoldable pub change_at : (File → File) → ℕ → List File → List File
change_at change place files =
    option_map_or (λ file. slice_set files place (change file)) (slice_get files place) files

abbrev pub with_changed : Bench → ℕ → (File → File) → Bench
with_changed bench place change = record bench { files = change_at change place bench.files }

-- so many more bytes were handed over as contents
abbrev pub with_handed : Bench → ℕ → Bench
with_handed bench size = record bench { handed = bench.handed + size }

abbrev pub with_end : Bench → ℕ → End → Bench
with_end bench place end_of_file = with_changed bench place (λ file. record file { «end» = Some end_of_file })

abbrev pub with_penalty : Bench → ℕ → Bench
with_penalty bench place = with_changed bench place (λ file. record file { penalised = true })

abbrev pub with_route : Bench → ℕ → ℕ → Bench
with_route bench place relationship = with_changed bench place (λ file. record file { routed = Some relationship })

abbrev pub with_sent : Bench → ℕ → List ℕ → Bench
with_sent bench place name = record bench { sent = Some (record { place = place; name = name }) }

-- a file with other attributes, and one with a content of its own
abbrev pub attributed_file : AttributeMap → File → File
attributed_file attributes file = record file { attributes = attributes }

abbrev pub written_file : List ℕ → File → File
written_file bytes file = record file { body = New bytes; written = true }

abbrev pub with_attributes : Bench → ℕ → AttributeMap → Bench
with_attributes bench place attributes = with_changed bench place (attributed_file attributes)

-- `uuid` can't be set
abbrev pub with_put : Bench → ℕ → List ℕ → List ℕ → Bench
with_put bench place key value =
    if is_uuid key then bench else with_attributes bench place (insert (bench_attributes bench place) key value)

abbrev pub with_removed : Bench → ℕ → List ℕ → Bench
with_removed bench place key = with_attributes bench place (remove (bench_attributes bench place) key)

-- a content of its own, by a write of so many bytes
abbrev pub with_content : Bench → ℕ → List ℕ → ℕ → Bench
with_content bench place bytes size = with_handed (with_changed bench place (written_file bytes)) size

abbrev pub with_written : Bench → ℕ → List ℕ → Bench
with_written bench place bytes = with_content bench place bytes (length bytes)

abbrev pub with_appended : Bench → ℕ → List ℕ → Bench
with_appended bench place bytes =
    with_content bench place (unwrap_or (bench_bytes bench place) [] ++ bytes) (length bytes)

-- a file that the session makes
abbrev pub new_file : Origin → AttributeMap → Body → File
new_file origin attributes body =
    record {
      origin = origin;
      attributes = attributes;
      body = body;
      «end» = None;
      written = false;
      penalised = false;
      routed = None;
    }

-- one more file, at the end
abbrev pub with_made : Bench → Origin → AttributeMap → Body → Bench
with_made bench origin attributes body = record bench { files = bench.files ++ new_file origin attributes body ∷ [] }

abbrev pub with_created : Bench → Bench
with_created bench = with_made bench Created empty (New [])

abbrev pub with_received : Bench → List ℕ → Bench
with_received bench bytes = with_handed (with_made bench Received empty (New bytes)) (length bytes)

abbrev pub with_child : Bench → ℕ → Bench
with_child bench parent = with_made bench (Forked parent) (bench_attributes bench parent) (New [])

-- the attributes that all these files have
abbrev pub common_attributes : Bench → List ℕ → AttributeMap
common_attributes bench [] = empty
common_attributes bench (parent ∷ more) =
    fold (λ attributes other. shared attributes (bench_attributes bench other)) (bench_attributes bench parent) more

abbrev pub with_joined : Bench → List ℕ → Bench
with_joined bench parents = with_made bench (Joined parents) (common_attributes bench parents) (New [])

abbrev pub with_clone : Bench → ℕ → Bench
with_clone bench of = with_made bench (Cloned of) (bench_attributes bench of) (body_at bench of)

-- a part of a content: a part of a taken content stays a reference to it
abbrev pub body_part : Body → ℕ → ℕ → Body
body_part (Whole of) offset size = Part of offset size
body_part (Part of start whole) offset size = Part of (start + offset) size
body_part (New bytes) offset size = New (slice_range bytes offset (offset + size))

abbrev pub is_whole : Bench → ℕ → ℕ → ℕ → Bool
is_whole bench of offset size = (offset == 0) && (size == content_size bench of)

abbrev pub with_part : Bench → ℕ → ℕ → ℕ → Bench
with_part bench of offset size =
    with_made bench (PartOf of) (bench_attributes bench of) (body_part (body_at bench of) offset size)

abbrev pub with_range : Bench → ℕ → ℕ → ℕ → Bench
with_range bench of offset size =
    if is_whole bench of offset size then with_clone bench of else with_part bench of offset size
