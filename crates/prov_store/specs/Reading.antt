-- The event at a place of a file.
use Rattle.std.specs.Prelude.{◌≡◌, ℕ, ◌-◌, ◌≤◌, Bool, IsTrue, List, length, take, drop, slice_index, Some, Result, Ok}
use Rattle.std.specs.Int.{w32, from_be_bytes}
use Rattle.disk_trait.specs.Files.{Files}
use Rattle.disk_trait.specs.declared.damage.Damage.{Damage}
use Rattle.flowfile_record.specs.declared.event.Event.{Event}
use Rattle.prov_event.specs.EventReading.{all_kinds, of_code}
use Rattle.record_codec.specs.Block.{Reading, Whole, reading_of, sized}
use Rattle.prov_store.specs.Events.{event_by}
use Rattle.prov_store.specs.declared.read.Cursor.{Cursor}
use Rattle.prov_store.specs.declared.read.EventHead.{EventHead}
use Rattle.prov_store.specs.declared.read.TheConstants.{HEAD_SIZE}

-- what stands there, with the size of its block
abbrev pub event_there : Files → Cursor → Result (Event × ℕ) Damage
event_there files cursor =
    event_by cursor.file cursor.at cursor.number (reading_of (drop cursor.at (files cursor.file)))

-- what the first bytes of an event's block say, where so many stand from there on
pub record IsEventHead (bytes : List ℕ) (have : ℕ) (head : EventHead) : Type 0 where
  pub size : sized (from_be_bytes w32 (take 4 bytes)) have ≡ Ok head.size
  pub kind : of_code (slice_index bytes (HEAD_SIZE - 1)) all_kinds ≡ Some head.kind

-- a whole block stands there
pub record HasWhole (reading : Reading) : Type 0 where
  pub kind : ℕ
  pub payload : List ℕ
  pub whole : reading ≡ Whole kind payload

-- the place lies within the file, whose size is right where the disk tells
pub record IsThere (tells : Bool) (files : Files) (cursor : Cursor) : Type 0 where
  pub within : cursor.at ≤ cursor.size
  pub size : IsTrue tells → cursor.size ≡ length (files cursor.file)
