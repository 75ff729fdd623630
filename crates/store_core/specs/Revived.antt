-- What a revival leaves: a log that was mended, or a store that was made.
use Rattle.std.specs.Prelude.{◌≡◌, ◌⊎◌, ℕ, ◌+◌, Bool, true, false, IsTrue, List, length, Option, Some, None, Result, OnOk}
use Rattle.disk_trait.specs.Files.{Files}
use Rattle.disk_trait.specs.Images.{After, Since}
use Rattle.flowfile_record.specs.Stored.{Kept}
use Rattle.flowfile_record.specs.declared.content.ContentRef.{ContentRef}
use Rattle.content_repo.specs.Slots.{count_of, size_of, held_in, covered, references_to}
use Rattle.content_repo.specs.declared.slot.Slot.{Slot}
use Rattle.flowfile_wal.specs.Calls.{InEach}
use Rattle.flowfile_wal.specs.Steps.{LogState, IsReadyIn}
use Rattle.store_core.specs.Agreement.{Needs, IsPlain, Agrees, SameEventFiles, IsUnmade}
use Rattle.store_core.specs.Discard.{HasNoOthers}
use Rattle.store_core.specs.Opened.{IsNewStore}
use Rattle.store_core.specs.Touched.{Revives}

-- The log of this number works, each image ends it with a closed gate, and no other log, snapshot or batch is left.
pub record IsLogWhole {D : Type 0} (tells : Bool) (held : D → Files) (moment : D → ℕ) (images : D → ℕ → Files → Type 0)
    (number : ℕ) (log : LogState) (disk : D) : Type 0 where
  pub current : log.number ≡ Some number
  pub mended : log.mended ≡ true
  pub works : log.failed ≡ false
  pub ready : InEach (images disk (moment disk)) (IsReadyIn log)
  pub others : IsTrue tells → HasNoOthers (Some number) (held disk)

-- Wherever a stop comes: where a log was current, what a state needs of it is as it was; where none was, no store is
-- made yet, or this one is.
pub record KeepsOrMakes {D : Type 0} (moment : D → ℕ) (images : D → ℕ → Files → Type 0) (current : Option ℕ) (k : Kept)
    (old new : D) : Type 0 where
  pub keeps : (number : ℕ) (needs : Needs) → current ≡ Some number → IsPlain needs number
      → Since moment images old new (After (Agrees needs) (images old (moment old)))
  pub makes : current ≡ None → Since moment images old new (λ c. IsUnmade c ⊎ IsNewStore k c)

-- Wherever a stop comes, the files of events are as they were, and but for the log's each other file is too, or shorter.
pub record RevivesOn {D : Type 0} (moment : D → ℕ) (images : D → ℕ → Files → Type 0) (current : Option ℕ) (old new : D)
    : Type 0 where
  pub events : Since moment images old new (After SameEventFiles (images old (moment old)))
  pub alone : Since moment images old new (After (Revives current) (images old (moment old)))

-- each of these contents is held twice, and each claim ends behind the last of them
pub record HoldsTwice (refs : List ContentRef) (slots : List Slot) : Type 0 where
  pub counts : (k : ℕ) → count_of slots k ≡ references_to k refs + references_to k refs
  pub held : held_in slots ≡ length refs + length refs
  pub sizes : (k : ℕ) → size_of slots k ≡ covered k refs
