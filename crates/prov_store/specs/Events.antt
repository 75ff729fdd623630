-- Files of events: which events stand in them past a line and up to a last one, or the first damage. The line is a
-- multiple of the events of a file: the files before it are forgotten, and what stands in them doesn't matter.
use Rattle.std.specs.Prelude.{ℕ, zero, suc, ◌+◌, ◌-◌, ◌*◌, ◌/◌, ◌==◌, min, List, [], ◌∷◌, ◌++◌, length, take, drop, Option, None, Some, Result, Ok, Err, if◌then◌else◌}
use Rattle.disk_trait.specs.Files.{Files, named}
use Rattle.disk_trait.specs.declared.damage.Damage.{Damage}
use Rattle.disk_trait.specs.declared.damage.Damage.TheVariants.{Digest, Short, Form}
use Rattle.disk_trait.specs.declared.file_name.FileKind.TheVariants.{Events}
use Rattle.disk_trait.specs.declared.file_name.FileName.{FileName}
use Rattle.flowfile_record.specs.Reading.{whole}
use Rattle.flowfile_record.specs.declared.event.Event.{Event}
use Rattle.prov_event.specs.EventReading.{event_at}
use Rattle.prov_event.specs.declared.TheConstants.{EVENT_KIND}
use Rattle.flowfile_record.specs.declared.limits.TheConstants.{EVENTS_PER_FILE}
use Rattle.record_codec.specs.Block.{Reading, Whole, Cut, Long, Differs, reading_of}
use Rattle.record_codec.specs.declared.block.TheConstants.{BLOCK_OVERHEAD}

-- the file of events of this number
abbrev pub events_file : ℕ → FileName
events_file k = named Events k

-- how many of the events past a line and up to a last one the file of this number has
abbrev pub count_in : (line last k : ℕ) → ℕ
count_in line last k = min EVENTS_PER_FILE (last - EVENTS_PER_FILE * k) - (line - EVENTS_PER_FILE * k)

-- the number of the first event of the file of this number
abbrev pub first_event : (k : ℕ) → ℕ
first_event k = EVENTS_PER_FILE * k + 1

-- what comes next is read behind this, unless this is damaged
infixl 10 ◌>>=◌
abbrev pub ◌>>=◌ : {A B : Type 0} → Result A Damage → (A → Result B Damage) → Result B Damage
(Ok a) >>= next = next a
(Err damage) >>= next = Err damage

-- ---- the events of a file

-- an event, where it has the number that is wanted
abbrev pub if_numbered : (number : ℕ) → Result Event ℕ → Option Event
if_numbered number (Ok e) = if e.number == number then Some e else None
if_numbered number (Err left) = None

-- the event that a block holds, where the one of this number is wanted
abbrev pub event_in : (number kind : ℕ) → (payload : List ℕ) → Option Event
event_in number kind payload = if kind == EVENT_KIND then if_numbered number (whole event_at payload) else None

-- an event with the size of its block; a block that holds none has no form
abbrev pub with_size : FileName → (at size : ℕ) → Option Event → Result (Event × ℕ) Damage
with_size file at size (Some e) = Ok (e, size)
with_size file at size None = Err (Form file at)

-- the event that stands where the one of this number is wanted, with the size of its block
abbrev pub event_by : FileName → (at number : ℕ) → Reading → Result (Event × ℕ) Damage
event_by file at number (Whole kind payload) =
    with_size file at (length payload + BLOCK_OVERHEAD) (event_in number kind payload)
event_by file at number (Cut need have) = Err (Short file at need have)
event_by file at number (Long size) = Err (Form file at)
event_by file at number (Differs stored found) = Err (Digest file at stored found)

-- so many events from an offset of a file on, the first of which has this number
abbrev pub events_from : (count : ℕ) → FileName → (at number : ℕ) → List ℕ → Result (List Event) Damage
events_from zero file at number bytes = Ok []
events_from (suc count) file at number bytes = do
  first ← event_by file at number (reading_of bytes)
  later ← events_from count file (at + first.1) (number + 1) (drop first.1 bytes)
  Ok (first.0 ∷ later)

-- those of the file of this number, past a line and up to a last one
abbrev pub events_of_file : (line last k : ℕ) → Files → Result (List Event) Damage
events_of_file line last k files =
    events_from (count_in line last k) (events_file k) 0 (first_event k) (files (events_file k))

-- ---- the events of all files

-- those of so many files, from this number on
abbrev pub events_of_files : (count : ℕ) → (line last k : ℕ) → Files → Result (List Event) Damage
events_of_files zero line last k files = Ok []
events_of_files (suc count) line last k files = do
  events ← events_of_file line last k files
  later ← events_of_files count line last (k + 1) files
  Ok (events ++ later)

-- the events past a line and up to a last one, or their first damage
unfoldable pub events_in : Files → (line last : ℕ) → Result (List Event) Damage
events_in files line last = events_of_files (suc (last / EVENTS_PER_FILE)) line last 0 files

-- ---- what of the files is covered

abbrev pub behind_whole : Reading → (ℕ → ℕ) → ℕ
behind_whole (Whole kind payload) following = following (length payload + BLOCK_OVERHEAD)
behind_whole _ following = 0

-- how many bytes the first so many blocks of a file have
abbrev pub blocks_size : (count : ℕ) → List ℕ → ℕ
blocks_size zero bytes = 0
blocks_size (suc count) bytes = behind_whole (reading_of bytes) (λ size. size + blocks_size count (drop size bytes))

-- how many bytes the events past a line and up to a last one have in the file of this number
unfoldable pub covered_size : (line last k : ℕ) → Files → ℕ
covered_size line last k files = blocks_size (count_in line last k) (files (events_file k))

-- their bytes
abbrev pub covered_bytes : (line last k : ℕ) → Files → List ℕ
covered_bytes line last k files = take (covered_size line last k files) (files (events_file k))
