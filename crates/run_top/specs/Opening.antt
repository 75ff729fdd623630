-- What opening a flow's store leaves, and why it may not be opened.
use Rattle.std.specs.Prelude.{◌≡◌, ◌⊎◌, ⊤, ℕ, Bool, List, IfErr, IsTrue, Result, Ok, Err, IsErrOf, Some}
use Rattle.disk_trait.specs.Faults.{CountsFaults}
use Rattle.disk_trait.specs.Files.{Files}
use Rattle.disk_trait.specs.Images.{Since}
use Rattle.disk_trait.specs.declared.damage.Damage.{Damage}
use Rattle.flowfile_record.specs.Stored.{Kept}
use Rattle.flowfile_wal.specs.Current.{current_number}
use Rattle.machine_model.specs.declared.flow.Flow.{Flow}
use Rattle.machine_model.specs.State.{State}
use Rattle.store_core.specs.Calls.{SinceSync, IsUnwritten}
use Rattle.store_core.specs.Flow as store
use Rattle.store_core.specs.Kept.{kept_in}
use Rattle.store_core.specs.Opened.{IsOfOther, IsShut, SameMeaning}
use Rattle.store_core.specs.State.{stands_for}
use Rattle.store_core.specs.Store.{StoreState}
use Rattle.store_core.specs.Touched.{log_opened}
use Rattle.engine_change.specs.Committing.{identity_of}
use Rattle.run_law.specs.Work.{IsAtWork}
use Rattle.run_top.specs.declared.answer.Answer.{Answer}
use Rattle.run_top.specs.declared.answer.Answer.TheVariants.{OtherFlow, Damaged, Disk, Memory}

-- the files stand for this state, and it is one of the flow
pub record IsOfFlow (flow : Flow) (lot : ℕ) (files : Files) (state : State) : Type 0 where
  pub stands : stands_for (identity_of flow) lot files ≡ Ok state
  pub kept : Kept
  pub keeps : kept_in (identity_of flow) lot files ≡ Ok kept
  pub is : kept.flow ≡ flow.digest

-- an answer that the opening of a store gives
abbrev pub IsOfStore : Answer → Type 0
IsOfStore OtherFlow = ⊤
IsOfStore (Damaged damage) = ⊤
IsOfStore Disk = ⊤
IsOfStore Memory = ⊤
IsOfStore _ = ⊥

-- it tells what files have that stand for no state, or that they are another flow's
abbrev pub IsShutAnswer : store.Flow → (lot : ℕ) → Files → Answer → Type 0
IsShutAnswer flow lot files (Damaged damage) = stands_for flow lot files ≡ Err damage
IsShutAnswer flow lot files OtherFlow = (digest : List ℕ) × IsOfOther flow lot digest files
IsShutAnswer flow lot files _ = ⊥

-- Damage or another flow was told: on a disk that tells, the files are so. On any disk they are as before, and of the
-- calls that change something there was one sync.
pub record IsToldBy {D : Type 0} (flow : store.Flow) (answer : Answer) (tells : Bool) (held : D → Files) (moment : D → ℕ)
    (lot : ℕ) (old new : D) : Type 0 where
  pub found : IsTrue tells → IsShutAnswer flow lot (held old) answer
  pub unwritten : IsUnwritten held moment old new

-- Its first sync failed, which is told, or memory was wanting before it: whatever is left is one of the images of
-- before.
pub record IsUnopened {D A : Type 0} (moment : D → ℕ) (images : D → ℕ → Files → Type 0) (old new : D)
    (result : Result A Answer) : Type 0 where
  pub told : IsErrOf result Disk ⊎ (IsErrOf result Memory × (new ≡ old))
  pub left : Since moment images old new (images old (moment old))

abbrev pub Opens : {D A : Type 0} → store.Flow → (D → ℕ) → (D → ℕ → Files → Type 0) → (lot : ℕ) → Files
    → (old new : D) → Result A Answer → Type 0
Opens flow moment images lot files old new result =
    SinceSync moment images old new (SameMeaning flow lot files) ⊎ IsUnopened moment images old new result

abbrev pub IsLeftUnwritten : {D A : Type 0} → (D → Files) → (D → ℕ) → (D → ℕ → Files → Type 0) → (old new : D)
    → Result A Answer → Type 0
IsLeftUnwritten held moment images old new result =
    IsUnwritten held moment old new ⊎ IsUnopened moment images old new result

-- ---- for private clauses

-- The store of this lot is at work for the flow. Where the disk tells, its log is the one that an opening makes
-- current, and the files were none that may not be opened.
pub record HasOpened {D : Type 0} (flow : Flow) (tells : Bool) (held : D → Files) (moment : D → ℕ)
    (images : D → ℕ → Files → Type 0) (lot : ℕ) (old new : D) (store : StoreState) : Type 0 where
  pub work : IsAtWork flow tells held moment images store new
  pub lot_is : store.lot ≡ lot
  pub log : IsTrue tells → store.log.number ≡ Some (log_opened (current_number (held old)))
  pub may : IsTrue tells → IsShut (identity_of flow) lot (held old) → ⊥

-- How the opening of a store refuses: by an answer that one gives. Damage and another flow are told where the files are
-- so, and the disk's fault where its count rose.
pub record OpensNoStore {D A : Type 0} (result : Result A Answer) (flow : store.Flow) (tells : Bool) (held : D → Files)
    (moment : D → ℕ) (faults : D → ℕ) (lot : ℕ) (old new : D) : Type 0 where
  pub kinds : IfErr result IsOfStore
  pub damaged : (damage : Damage) → IsErrOf result (Damaged damage)
      → IsToldBy flow (Damaged damage) tells held moment lot old new
  pub other_flow : IsErrOf result OtherFlow → IsToldBy flow OtherFlow tells held moment lot old new
  pub cause : CountsFaults (faults old) (faults new) (IsErrOf result Disk)
