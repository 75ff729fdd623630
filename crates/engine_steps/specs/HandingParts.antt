-- What handing out a job leaves of the store and of each device.
use Rattle.std.specs.Prelude.{◌≡◌, ℕ, Bool, List, Option, Result, IsErrOf}
use Rattle.disk_trait.specs.Faults.{CountsFaults}
use Rattle.disk_trait.specs.Files.{Files}
use Rattle.disk_trait.specs.Images.{Stays}
use Rattle.disk_trait.specs.declared.damage.Damage.{Damage}
use Rattle.flowfile_record.specs.NamedFile.{NamedFile}
use Rattle.kept_state.specs.declared.limit.Limit.{Limit as TheLimit}
use Rattle.store_core.specs.Store.{StoreState}
use Rattle.run_law.specs.Puts.{outgoing}
use Rattle.run_law.specs.Work.{DoesNotTell}
use Rattle.engine_steps.specs.Errors.{IsReadBy}
use Rattle.engine_steps.specs.declared.error.EngineError.{EngineError}
use Rattle.engine_steps.specs.declared.error.EngineError.TheVariants.{Damaged, Disk, Inbox, Outbox, Put, Limit, MustReopen, NoSession}

-- Contents were read by a store that works: nothing is written, and the store has failed only where the disk did.
-- Damage is answered only on a disk that doesn't tell, and the disk's error only where it failed.
pub record ReadsContents {D A : Type 0} (result : Result A EngineError) (tells : Bool) (held : D → Files)
    (moment : D → ℕ) (images : D → ℕ → Files → Type 0) (faults : D → ℕ) (s t : StoreState) (old new : D) : Type 0 where
  pub store : IsReadBy result s t
  pub stays : Stays held moment images old new
  pub damaged : (damage : Damage) → IsErrOf result (Damaged damage) → DoesNotTell tells
  pub cause : CountsFaults (faults old) (faults new) (IsErrOf result Disk)

-- The inbox has what it had, and its error is answered only where it failed.
pub record AsksInbox {I A : Type 0} (result : Result A EngineError) (left_in : I → List NamedFile) (faults : I → ℕ)
    (old new : I) : Type 0 where
  pub left : left_in new ≡ left_in old
  pub cause : CountsFaults (faults old) (faults new) (IsErrOf result Inbox)

-- So has the outbox, and nothing is put.
pub record AsksOutbox {O A : Type 0} (result : Result A EngineError) (standing : O → List ℕ → Option (List ℕ))
    (puts : O → List NamedFile) (faults : O → ℕ) (old new : O) : Type 0 where
  pub stands : outgoing standing puts new ≡ outgoing standing puts old
  pub unput : IsErrOf result Put → ⊥
  pub cause : CountsFaults (faults old) (faults new) (IsErrOf result Outbox)

-- The outbox isn't called: it is as it was, and no failure of it is answered.
pub record IsUncalled {O A : Type 0} (result : Result A EngineError) (old new : O) : Type 0 where
  pub same : new ≡ old
  pub unfailed : IsErrOf result Outbox → ⊥

-- A job was handed out, or was to be: so of the store and of all devices. No limit is met by that, and it isn't refused
-- because the store must be opened anew, or no such session is in flight.
pub record LeavesAsRead {D I O A : Type 0} (result : Result A EngineError) (tells : Bool) (held : D → Files)
    (moment : D → ℕ) (images : D → ℕ → Files → Type 0) (faults : D → ℕ) (left_in : I → List NamedFile)
    (in_faults : I → ℕ) (standing : O → List ℕ → Option (List ℕ)) (puts : O → List NamedFile) (out_faults : O → ℕ)
    (s t : StoreState) (old new : D) (in_old in_new : I) (out_old out_new : O) : Type 0 where
  pub contents : ReadsContents result tells held moment images faults s t old new
  pub inbox : AsksInbox result left_in in_faults in_old in_new
  pub outbox : AsksOutbox result standing puts out_faults out_old out_new
  pub unlimited : (limit : TheLimit) → IsErrOf result (Limit limit) → ⊥
  pub works : IsErrOf result MustReopen → ⊥
  pub known : IsErrOf result NoSession → ⊥
