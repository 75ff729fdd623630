-- What a session holds: the files that it works on, as they are now.
use Rattle.std.specs.Prelude.{◌≡◌, ℕ, ◌+◌, ◌<◌, ◌≤◌, Bool, false, List, [], ◌∷◌, length, map, sum_by, Option, None, Some, option_and_then, slice_get, slice_range}
use Rattle.std.specs.Option.{option_map, option_map_or}
use Rattle.std.specs.FinMap.{empty}
use Rattle.flowfile_record.specs.Attributes.{AttributeMap, encoded_size}
use Rattle.flowfile_record.specs.Outcome.{is_made, filename_to_come}
use Rattle.flowfile_record.specs.declared.TheConstants.{CONTENT_MAX}
use Rattle.flowfile_record.specs.declared.worked.Body.{Body}
use Rattle.flowfile_record.specs.declared.worked.Body.TheVariants.{Whole, Part, New}
use Rattle.flowfile_record.specs.declared.worked.Origin.{Origin}
use Rattle.flowfile_record.specs.declared.worked.Origin.TheVariants.{Taken as FromQueue, Created}
use Rattle.flowfile_record.specs.declared.worked.Sent.{Sent}
use Rattle.process_session.specs.declared.file.File.{File}
use Rattle.process_session.specs.declared.file.Source.{Source}
use Rattle.process_session.specs.declared.file.Taken.{Taken}

-- the relationships that its processor has, the taken files as they were taken, all files as they are now, the taken
-- ones first, what is put into the outbox, and how many bytes were handed over as contents
pub record Bench : Type 0 where
  pub relationships : ℕ
  pub sources : List Source
  pub files : List File
  pub sent : Option Sent
  pub handed : ℕ

abbrev pub taken_source : Taken → Source
taken_source taken = record { uuid = taken.uuid; size = taken.size; bytes = taken.bytes }

-- a taken file as the session begins
abbrev pub taken_file : ℕ → Taken → File
taken_file place taken =
    record {
      origin = FromQueue place;
      attributes = taken.attributes;
      body = Whole place;
      «end» = None;
      written = false;
      penalised = false;
      routed = None;
    }

abbrev pub files_taken : ℕ → List Taken → List File
files_taken place [] = []
files_taken place (taken ∷ more) = taken_file place taken ∷ files_taken (place + 1) more

-- the bench as the session begins
abbrev pub bench_of : ℕ → List Taken → Bench
bench_of relationships taken =
    record {
      relationships = relationships;
      sources = map taken_source taken;
      files = files_taken 0 taken;
      sent = None;
      handed = 0;
    }

-- what a taken file's content was, where the session was given it
abbrev pub taken_bytes : List Source → ℕ → Option (List ℕ)
taken_bytes sources of = option_and_then (λ source. source.bytes) (slice_get sources of)

abbrev pub taken_size : List Source → ℕ → ℕ
taken_size sources of = option_map_or (λ source. source.size) (slice_get sources of) 0

-- the content that a body stands for, where the session has it
abbrev pub body_bytes : List Source → Body → Option (List ℕ)
body_bytes sources (Whole of) = taken_bytes sources of
body_bytes sources (Part of offset size) =
    option_map (λ bytes. slice_range bytes offset (offset + size)) (taken_bytes sources of)
body_bytes sources (New bytes) = Some bytes

abbrev pub body_size : List Source → Body → ℕ
body_size sources (Whole of) = taken_size sources of
body_size sources (Part of offset size) = size
body_size sources (New bytes) = length bytes

-- the file at a place has such a body; at a place without a file, an empty one
abbrev pub body_at : Bench → ℕ → Body
body_at bench place = option_map_or (λ file. file.body) (slice_get bench.files place) (New [])

-- the present content of the file at a place, where the session has it
abbrev pub bytes_in : List Source → List File → ℕ → Option (List ℕ)
bytes_in sources files place = option_and_then (λ file. body_bytes sources file.body) (slice_get files place)

abbrev pub bench_bytes : Bench → ℕ → Option (List ℕ)
bench_bytes bench place = bytes_in bench.sources bench.files place

abbrev pub content_size : Bench → ℕ → ℕ
content_size bench place = body_size bench.sources (body_at bench place)

abbrev pub attributes_in : List File → ℕ → AttributeMap
attributes_in files place = option_map_or (λ file. file.attributes) (slice_get files place) empty

abbrev pub bench_attributes : Bench → ℕ → AttributeMap
bench_attributes bench place = attributes_in bench.files place

-- where the file at a place comes from; a place without a file counts as taken
abbrev pub origin_at : Bench → ℕ → Origin
origin_at bench place = option_map_or (λ file. file.origin) (slice_get bench.files place) (FromQueue place)

abbrev pub is_made_at : Bench → ℕ → Bool
is_made_at bench place = is_made (origin_at bench place)

-- what attributes take with the `filename` that a made file is given later where it has none
abbrev pub named_size : Origin → AttributeMap → ℕ
named_size origin attributes = encoded_size attributes + filename_to_come origin attributes

-- what they take as a made file's
abbrev pub made_size : AttributeMap → ℕ
made_size attributes = named_size Created attributes

abbrev pub file_size : File → ℕ
file_size file = encoded_size file.attributes

-- what the present attributes of all files take
abbrev pub attribute_size : Bench → ℕ
attribute_size bench = sum_by file_size bench.files

-- how large the taken contents are
abbrev pub sizes_of : List Source → List ℕ
sizes_of sources = map (λ source. source.size) sources

-- the bytes that it was given are its whole content
abbrev pub HasItsSize : Option (List ℕ) → ℕ → Type 0
HasItsSize None size = Unit {0}
HasItsSize (Some bytes) size = length bytes ≡ size

abbrev pub IsWhole : Taken → Type 0
IsWhole taken = HasItsSize taken.bytes taken.size

-- a body that names a place names a taken file, and no byte outside its content; bytes of its own are no more than a
-- content may have
abbrev pub IsBodyOf : List Source → Body → Type 0
IsBodyOf sources (Whole of) = of < length sources
IsBodyOf sources (Part of offset size) = (of < length sources) × (offset + size ≤ taken_size sources of)
IsBodyOf sources (New bytes) = length bytes ≤ CONTENT_MAX
