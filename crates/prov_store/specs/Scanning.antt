-- Some of the events of files are found.
use Rattle.std.specs.Prelude.{◌≡◌, ℕ, ◌+◌, ◌-◌, ◌/◌, ◌<◌, ◌≤◌, ◌^◌, ◌%◌, ◌&&◌, nat_le, min, max, Bool, IsTrue, List, ◌++◌, drop, map, Ok}
use Rattle.std.specs.List.{range_with_len}
use Rattle.disk_trait.specs.Files.{Files}
use Rattle.flowfile_record.specs.declared.event.Event.{Event}
use Rattle.flowfile_record.specs.declared.limits.TheConstants.{EVENTS_PER_FILE}
use Rattle.flowfile_record.specs.Reading.{whole}
use Rattle.prov_event.specs.EventReading.{event_at}
use Rattle.prov_event.specs.declared.TheConstants.{EVENT_KIND}
use Rattle.record_codec.specs.Block.{Whole, reading_of}
use Rattle.prov_store.specs.Events.{events_file, events_from, blocks_size}
use Rattle.prov_store.specs.Loading.{bytes_there}
use Rattle.prov_store.specs.declared.read.Cursor.{Cursor}
use Rattle.prov_store.specs.declared.scan.Scan.{Scan}

-- its number lies between these
abbrev pub is_within : (first last : ℕ) → Event → Bool
is_within first last e = nat_le first e.number && nat_le e.number last

-- some event past a line and up to a last one lies between the two numbers
abbrev pub HasBetween : (from to line last : ℕ) → Type 0
HasBetween from to line last = max from (line + 1) ≤ min to last

-- the numbers from one to another, both included
abbrev pub numbers_between : (first last : ℕ) → List ℕ
numbers_between first last = range_with_len first (last + 1 - first)

-- there are events between the two numbers
pub record MayScan (scan : Scan) : Type 0 where
  pub whole : scan.line % EVENTS_PER_FILE ≡ 0
  pub past : scan.line < scan.first
  pub some : scan.first ≤ scan.last
  pub there : scan.last ≤ scan.end
  pub limit : scan.end < 2 ^ 62

pub record SameScan (old new : Scan) : Type 0 where
  pub line : new.line ≡ old.line
  pub end : new.end ≡ old.end
  pub first : new.first ≡ old.first
  pub last : new.last ≡ old.last

-- some block of its file, with the right digest, is the event's
pub record StandsInItsFile (files : Files) (e : Event) : Type 0 where
  pub at : ℕ
  pub payload : List ℕ
  pub block : reading_of (drop at (files (events_file ((e.number - 1) / EVENTS_PER_FILE)))) ≡ Whole EVENT_KIND payload
  pub says : whole event_at payload ≡ Ok e

-- so many events were read from a place on
pub record HasRead (tells : Bool) (files : Files) (start : Cursor) (many : ℕ) (old new : List Event) : Type 0 where
  pub events : List Event
  pub says : IsTrue tells → events_from many start.file start.at start.number (bytes_there files start) ≡ Ok events
  pub items : new ≡ old ++ events
  pub numbered : map (λ e. e.number) events ≡ range_with_len start.number many

-- so many events were skipped
pub record HasSkipped (tells : Bool) (files : Files) (start : Cursor) (many : ℕ) (cursor : Cursor) : Type 0 where
  pub behind : cursor ≡ record start { at = cursor.at; number = start.number + many }
  pub within : cursor.at ≤ start.size
  pub reaches : IsTrue tells → (events : List Event)
      → events_from many start.file start.at start.number (bytes_there files start) ≡ Ok events
      → cursor.at ≡ start.at + blocks_size many (bytes_there files start)
