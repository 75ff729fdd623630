-- Files of events that are read as far as some file.
use Rattle.std.specs.Prelude.{◌≡◌, ◌⊎◌, ℕ, ◌+◌, ◌-◌, ◌*◌, ◌/◌, ◌<◌, ◌≤◌, Bool, IsTrue, min, List, [], length, drop, map, filter, All, Contains, Ok, nat_lt}
use Rattle.std.specs.List.{range_with_len}
use Rattle.std.specs.List.Sorted.{IsStrictlyIncreasing}
use Rattle.disk_trait.specs.Files.{Files}
use Rattle.flowfile_record.specs.Encoding.{IsNumber}
use Rattle.flowfile_record.specs.declared.event.Event.{Event}
use Rattle.prov_store.specs.Events.{events_file, events_from, events_in, events_of_files, blocks_size, covered_bytes, covered_size}
use Rattle.prov_store.specs.Reading.{HasWhole}
use Rattle.record_codec.specs.Block.{reading_of}
use Rattle.prov_store.specs.State.{EventsState, counts_of, next_file, uncovered, AreCounted, AreLonger, IsEventLine}
use Rattle.flowfile_record.specs.declared.limits.TheConstants.{EVENTS_PER_FILE}
use Rattle.prov_store.specs.declared.events.Stale.{Stale}
use Rattle.prov_store.specs.declared.load.Loading.{Loading}
use Rattle.prov_store.specs.declared.read.Cursor.{Cursor}

-- the bytes of the file from a place on
abbrev pub bytes_there : Files → Cursor → List ℕ
bytes_there files cursor = drop cursor.at (files cursor.file)

-- fewer events than so many stand from a place on, and a whole block after them
pub record HasWholeBehind (files : Files) (start : Cursor) (many : ℕ) : Type 0 where
  pub count : ℕ
  pub fewer : count < many
  pub events : List Event
  pub says : events_from count start.file start.at start.number (bytes_there files start) ≡ Ok events
  pub whole : HasWhole (reading_of (drop (blocks_size count (bytes_there files start)) (bytes_there files start)))

-- Loading events past a line may want memory: those up to some number stand in the files, and then a whole block where
-- the next one is wanted. Or they end a file that is longer than what is covered. Or no more are wanted.
pub record LoadWantsMemory (files : Files) (line last : ℕ) : Type 0 where
  pub reached : ℕ
  pub from : line ≤ reached
  pub to : reached ≤ last
  pub events : List Event
  pub says : events_in files line reached ≡ Ok events
  pub wants : HasWhole (reading_of
      (drop (covered_size line reached (next_file reached) files) (files (events_file (next_file reached)))))
      ⊎ ((k : ℕ) × ((line ≤ EVENTS_PER_FILE * k) × ((reached ≡ EVENTS_PER_FILE * k + EVENTS_PER_FILE)
      × (covered_size line reached k files < length (files (events_file k))))))
      ⊎ (reached ≡ last)

-- so many events were read from a place on, up to this offset
pub record AreReadEvents (tells : Bool) (files : Files) (start : Cursor) (many : ℕ) (events : List Event)
    (end : ℕ) : Type 0 where
  pub count : length events ≡ many
  pub numbered : map (λ e. e.number) events ≡ range_with_len start.number many
  pub within : end ≤ start.size
  pub says : IsTrue tells → events_from many start.file start.at start.number (bytes_there files start) ≡ Ok events
  pub reaches : IsTrue tells → end ≡ start.at + blocks_size many (bytes_there files start)

-- and counted
pub record HaveCounted (tells : Bool) (files : Files) (start : Cursor) (many : ℕ) (old new : List ℕ)
    (end : ℕ) : Type 0 where
  pub events : List Event
  pub read : AreReadEvents tells files start many events end
  pub counted : AreCounted events old new
  pub long : length new ≡ 12

-- what is known once the files before this one are read
pub record EventsAreLoaded (tells : Bool) (files : Files) (k : ℕ) (loading : Loading) : Type 0 where
  pub events : List Event
  pub long : length loading.counts.counts ≡ 12
  pub counts : loading.counts.counts ≡ counts_of events
  pub many : length events ≡ min (EVENTS_PER_FILE * k) loading.end - loading.line
  pub says : IsTrue tells → events_of_files k loading.line loading.end 0 files ≡ Ok events
  pub offset : IsTrue tells → (j : ℕ) → j + 1 ≡ k → loading.offset ≡ covered_size loading.line loading.end j files
  pub sizes : IsTrue tells → All (λ s. s.size ≡ covered_size loading.line loading.end s.file files) loading.stale.items
  pub others : IsTrue tells → (j : ℕ) → loading.line / EVENTS_PER_FILE ≤ j → j < k
      → (Contains (map (λ s. s.file) loading.stale.items) j → ⊥)
      → files (events_file j) ≡ covered_bytes loading.line loading.end j files

-- of these files those before a first one and those behind a last one, in which nothing is covered
abbrev pub files_before : (first : ℕ) → List ℕ → List Stale
files_before first numbers = uncovered (filter (λ k. nat_lt k first) numbers)

abbrev pub files_later : (last : ℕ) → List ℕ → List Stale
files_later last numbers = uncovered (filter (λ k. nat_lt last k) numbers)

-- what is in memory once all files are read and these are stale
abbrev pub loaded_state : Loading → List Stale → EventsState
loaded_state loading stale = record {
  line = loading.line;
  end = loading.end;
  offset = loading.offset;
  counts = loading.counts.counts;
  stale = stale;
}

-- files from one to another are listed, which are longer than what is covered
pub record AreListedStale (tells : Bool) (files : Files) (first k : ℕ) (stale : List Stale) : Type 0 where
  pub longer : AreLonger tells files stale
  pub from : All (λ s. first ≤ s.file) stale
  pub before : All (λ s. s.file < k) stale

-- the files from the line to this one are read, and those of them are listed that are longer than what is covered
pub record FilesAreRead (tells : Bool) (files : Files) (k : ℕ) (loading : Loading) : Type 0 where
  pub loaded : EventsAreLoaded tells files k loading
  pub listed : AreListedStale tells files (loading.line / EVENTS_PER_FILE) k loading.stale.items

-- the file of this number may be read next: it is one of those from the line to the last event
pub record MayReadFile (k : ℕ) (loading : Loading) : Type 0 where
  pub line : IsEventLine loading.line loading.end
  pub end : IsNumber loading.end
  pub from : loading.line / EVENTS_PER_FILE ≤ k
  pub to : k ≤ loading.end / EVENTS_PER_FILE

-- These are the numbers of the files of events that aren't empty, ascending.
pub record AreFileNumbers (tells : Bool) (files : Files) (numbers : List ℕ) : Type 0 where
  pub ascending : IsStrictlyIncreasing numbers
  pub filled : IsTrue tells → All (λ k. 0 < length (files (events_file k))) numbers
  pub all : IsTrue tells → (k : ℕ) → (Contains numbers k → ⊥) → files (events_file k) ≡ []
