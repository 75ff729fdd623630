-- What an engine's errors mean for a run.
use Rattle.std.specs.Prelude.{◌≡◌, ◌⊎◌, ◌↔◌, ℕ, ◌≤◌, Bool, true, false, List, length, Result, Ok, IfErr, IsErrOf}
use Rattle.disk_trait.specs.Faults.{CountsFaults}
use Rattle.disk_trait.specs.Files.{Files}
use Rattle.disk_trait.specs.declared.damage.Damage.{Damage}
use Rattle.kept_state.specs.declared.limit.Limit.{Limit as TheLimit}
use Rattle.machine_model.specs.declared.flow.Flow.{Flow}
use Rattle.machine_model.specs.declared.journal.Entry.{Entry}
use Rattle.store_core.specs.Store.{StoreState}
use Rattle.run_law.specs.Ending.{journal_full}
use Rattle.run_law.specs.Work.{DoesNotTell, IsAtWork, IsRefused}
use Rattle.engine_steps.specs.Engine.{EngineState}
use Rattle.engine_steps.specs.Flights.{is_in_flight}
use Rattle.engine_steps.specs.declared.commit.Committed.{Committed}
use Rattle.engine_steps.specs.declared.commit.Committed.TheVariants.{Dropped}
use Rattle.run_law.specs.declared.ended.Ended.{Ended}
use Rattle.run_law.specs.declared.ended.Ended.TheVariants as ended
use Rattle.run_law.specs.declared.ended.Fault.TheVariants as fault
use Rattle.store_core.specs.declared.error.StoreError.{StoreError}
use Rattle.store_core.specs.declared.error.StoreError.TheVariants as store
use Rattle.world_io.specs.declared.error.WorldError.{WorldError}
use Rattle.world_io.specs.declared.error.WorldError.TheVariants as world
use Rattle.engine_steps.specs.declared.error.EngineError.{EngineError}
use Rattle.engine_steps.specs.declared.error.EngineError.TheVariants.{Damaged, Disk, Inbox, Outbox, Put, Limit, MustReopen, NoSession, Memory}

-- how a run ends by an error; MustReopen and NoSession are the first of none
abbrev pub ended_by : EngineError → Ended
ended_by (Damaged damage) = ended.Fault (fault.Damaged damage)
ended_by Disk = ended.Fault fault.Disk
ended_by Inbox = ended.Fault fault.Inbox
ended_by Outbox = ended.Fault fault.Outbox
ended_by Put = ended.Fault fault.Outbox
ended_by (Limit limit) = ended.Limit limit
ended_by MustReopen = ended.Fault fault.Disk
ended_by NoSession = ended.Fault fault.Disk
ended_by Memory = ended.Fault fault.Memory

-- what a refusal of the store means: one that has to be opened anew met a failure of the disk before, and of a store
-- that was opened no call asks for another flow
abbrev pub engine_error : StoreError → EngineError
engine_error store.Disk = Disk
engine_error store.MustReopen = Disk
engine_error store.Memory = Memory
engine_error (store.Limit limit) = Limit limit
engine_error (store.Damaged damage) = Damaged damage
engine_error (store.OtherFlow kept found) = Memory

abbrev pub inbox_error_of : WorldError → EngineError
inbox_error_of world.Failed = Inbox
inbox_error_of world.Memory = Memory

-- A device's fault count never falls, and its error is answered only where the count rose, or stands at its type's
-- end. The outbox has two: of a question, and of a put.
pub record CountsEachFault {A : Type 0} (result : Result A EngineError)
    (disk_old disk_new inbox_old inbox_new outbox_old outbox_new : ℕ) : Type 0 where
  pub disk : CountsFaults disk_old disk_new (IsErrOf result Disk)
  pub inbox : CountsFaults inbox_old inbox_new (IsErrOf result Inbox)
  pub outbox : CountsFaults outbox_old outbox_new (IsErrOf result Outbox)
  pub put : CountsFaults outbox_old outbox_new (IsErrOf result Put)

-- ---- a store that must be opened anew

-- MustReopen comes exactly where the engine's store must be opened anew, and then nothing is done. From Disk on it must
-- be, and from a put that failed; from no other answer on, a refused question of the outbox among them.
pub record Reopens {W A : Type 0} (result : Result A EngineError) (e_old e_new : EngineState) (old new : W) : Type 0
  where
    pub exactly : IsErrOf result MustReopen ↔ (e_old.failed ≡ true)
    pub untouched : e_old.failed ≡ true → (e_new ≡ e_old) × (new ≡ old)
    pub from : IsErrOf result Disk → e_new.failed ≡ true
    pub from_put : IsErrOf result Put → e_new.failed ≡ true
    pub only : e_new.failed ≡ true → (e_old.failed ≡ true) ⊎ IsErrOf result Disk ⊎ IsErrOf result Put

-- ---- a session that is asked for

-- This answer comes exactly where the session isn't in flight, before any refusal, and then nothing is done.
pub record AsksForSession {W A : Type 0} (result : Result A EngineError) (unknown : Type 0) (session : ℕ)
    (e_old e_new : EngineState) (old new : W) : Type 0 where
  pub exactly : unknown ↔ (is_in_flight session e_old.out ≡ false)
  pub untouched : unknown → (e_new ≡ e_old) × (new ≡ old)
  pub reopen : is_in_flight session e_old.out ≡ true → Reopens result e_old e_new old new

-- ---- calls that read

-- What reading leaves of a store that works: all is as it was, but that it has failed where the disk did.
pub record IsReadBy {A : Type 0} (result : Result A EngineError) (old new : StoreState) : Type 0 where
  pub unchanged : (IsErrOf result Disk → ⊥) → new ≡ old
  pub failed : IsErrOf result Disk → new ≡ record old { failed = true }

-- the same of an engine
pub record OnlyReads {A : Type 0} (result : Result A EngineError) (old new : EngineState) : Type 0 where
  pub unchanged : (IsErrOf result Disk → ⊥) → new ≡ old
  pub failed : IsErrOf result Disk → new ≡ record old { store = record old.store { failed = true }; failed = true }

-- ---- causes on any devices

-- The journal has as many entries as it may have, and the limit tells it.
pub record IsJournalFull (limit : TheLimit) (most : ℕ) (journal : List Entry) : Type 0 where
  pub told : limit ≡ journal_full most
  pub full : most ≤ length journal

-- A limit is one that a store at work refused a change by, or that of a full journal. Damage is answered only on a disk
-- that doesn't tell.
pub record HasCause {D A : Type 0} (result : Result A EngineError) (flow : Flow) (tells : Bool) (held : D → Files)
    (moment : D → ℕ) (images : D → ℕ → Files → Type 0) (most : ℕ) (journal : List Entry) (s : StoreState) (new : D)
    : Type 0 where
  pub limited : (limit : TheLimit) → IsErrOf result (Limit limit)
      → IsRefused flow tells held moment images limit s new
      ⊎ (IsJournalFull limit most journal × IsAtWork flow tells held moment images s new)
  pub damaged : (damage : Damage) → IsErrOf result (Damaged damage) → DoesNotTell tells

-- How `tend` refuses: so, and by the disk, for want of memory, or by a limit, which only files that have expired meet
-- (`wanted` of `TendsFirst`).
pub record RefusesToTend {D A : Type 0} (result : Result A EngineError) (tells : Bool) (held : D → Files) (moment : D → ℕ)
    (images : D → ℕ → Files → Type 0) (faults : D → ℕ) (e_old e_new : EngineState) (old new : D) : Type 0 where
  pub reopen : Reopens result e_old e_new old new
  pub kinds : IfErr result (λ error. (error ≡ Disk) ⊎ (error ≡ Memory) ⊎ (error ≡ MustReopen)
      ⊎ ((limit : TheLimit) × (error ≡ Limit limit)))
  pub limited : (limit : TheLimit) → IsErrOf result (Limit limit)
      → IsRefused e_old.flow tells held moment images limit e_new.store new
      ⊎ (IsJournalFull limit e_old.most e_new.journal
      × IsAtWork e_old.flow tells held moment images e_new.store new)
  pub disk : CountsFaults (faults old) (faults new) (IsErrOf result Disk)

-- How `read` refuses: so, by no limit, by damage only on a disk that doesn't tell, and by a device only where it failed.
pub record EngineRefusesToRead {D I O A : Type 0} (result : Result A EngineError) (session : ℕ) (tells : Bool)
    (faults : D → ℕ) (in_faults : I → ℕ) (out_faults : O → ℕ) (e_old e_new : EngineState) (old new : D)
    (in_old in_new : I) (out_old out_new : O) : Type 0 where
  pub asks : AsksForSession {W = D × I × O} result (IsErrOf result NoSession) session e_old e_new
      (old, in_old, out_old) (new, in_new, out_new)
  pub unlimited : (limit : TheLimit) → IsErrOf result (Limit limit) → ⊥
  pub damaged : (damage : Damage) → IsErrOf result (Damaged damage) → DoesNotTell tells
  pub devices : CountsEachFault result (faults old) (faults new) (in_faults in_old) (in_faults in_new)
      (out_faults out_old) (out_faults out_new)

-- How `commit` refuses: it drops a session that isn't in flight; or so, by a limit or by damage, and by a device only
-- where it failed.
pub record RefusesToCommit {D I O : Type 0} (result : Result Committed EngineError) (session : ℕ) (tells : Bool)
    (held : D → Files) (moment : D → ℕ) (images : D → ℕ → Files → Type 0) (faults : D → ℕ) (in_faults : I → ℕ)
    (out_faults : O → ℕ) (e_old e_new : EngineState) (old new : D) (in_old in_new : I) (out_old out_new : O) : Type 0
  where
    pub asks : AsksForSession {W = D × I × O} result (result ≡ Ok Dropped) session e_old e_new
        (old, in_old, out_old) (new, in_new, out_new)
    pub known : IsErrOf result NoSession → ⊥
    pub why : HasCause result e_old.flow tells held moment images e_old.most e_new.journal e_new.store new
    pub devices : CountsEachFault result (faults old) (faults new) (in_faults in_old) (in_faults in_new)
        (out_faults out_old) (out_faults out_new)
