-- How the contents of a change are written, and what its entry keeps.
use Rattle.std.specs.Prelude.{◌≡◌, ℕ, Bool, IsTrue, List, length, map}
use Rattle.std.specs.List.{AllZip}
use Rattle.disk_trait.specs.Files.{Files}
use Rattle.disk_trait.specs.Images.{calls_later}
use Rattle.flowfile_record.specs.declared.stored.Placed.{Placed}
use Rattle.record_codec.specs.Placeless.{placeless_entry}
use Rattle.record_codec.specs.declared.entry.LogEntry.{LogEntry}
use Rattle.content_repo.specs.Claims.{HasSizes}
use Rattle.content_repo.specs.declared.slot.Slot.{Slot}
use Rattle.kept_state.specs.Changes.{placed_in, record_of}
use Rattle.store_core.specs.Change.{fresh_contents_of}
use Rattle.store_core.specs.Placing.{MayPlace, StaysStored}

-- how many new contents these files have
abbrev pub fresh_count : List Placed → ℕ
fresh_count placed = length (fresh_contents_of placed)

-- the claims have the sizes that are known, and the disk took so many calls
pub record LeavesSizes {D : Type 0} (tells : Bool) (held : D → Files) (moment : D → ℕ) (slots : List Slot) (count : ℕ)
    (old new : D) : Type 0 where
  pub sizes : IsTrue tells → HasSizes slots (held new)
  pub calls : moment new ≡ calls_later count (moment old)

-- the entry records these files without their new contents, and they may be placed
pub record MayPlaceIn (entry : LogEntry) (slots : List Slot) (placed : List Placed) : Type 0 where
  pub recorded : placed_in entry ≡ map record_of placed
  pub may : MayPlace slots placed

-- whatever the answer, the entry is the same but for where new contents stand
pub record KeepsEntry (placed : List Placed) (before after : LogEntry) : Type 0 where
  pub same : placeless_entry after ≡ placeless_entry before
  pub stays : AllZip StaysStored placed (placed_in after)
