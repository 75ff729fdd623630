-- What the calls do of which `tend` is made, by a store that works: files expire, a new log begins, or claims are
-- reclaimed.
use Rattle.std.specs.Prelude.{◌≡◌, ◌⊎◌, ℕ, ◌≤◌, Bool, true, false, List, Option, Some, None, Result, Ok, IfOk, OnOk, IfErr, IsErrOf}
use Rattle.disk_trait.specs.Faults.{CountsFaults}
use Rattle.disk_trait.specs.Files.{Files}
use Rattle.flowfile_record.specs.NamedFile.{NamedFile}
use Rattle.flowfile_wal.specs.Calls.{InEach}
use Rattle.flow_queue.specs.Queue.{QueueState}
use Rattle.content_repo.specs.Slots.{IsReclaimed}
use Rattle.content_repo.specs.declared.reclaim.Reclaimed.{Reclaimed as TheCount}
use Rattle.kept_state.specs.declared.limit.Limit.{Limit as TheLimit}
use Rattle.machine_model.specs.declared.flow.Flow.{Flow}
use Rattle.machine_model.specs.declared.journal.Step.{Step}
use Rattle.machine_model.specs.State.{Machine}
use Rattle.store_core.specs.Store.{StoreState, kept_by}
use Rattle.run_law.specs.Going.{IsSpared}
use Rattle.run_law.specs.Puts.{Outgoing, Start}
use Rattle.run_law.specs.Run.{IsAtStoreLimit, StandsFor}
use Rattle.run_law.specs.Work.{IsAtWork, IsNoEarlier, IsRefused, IsShortOn, WritesLog}
use Rattle.engine_steps.specs.Engine.{EngineState, IsOfSameRun}
use Rattle.engine_steps.specs.Errors.{IsJournalFull}
use Rattle.engine_steps.specs.Ready.{EngineIsReady, expiry_in}
use Rattle.engine_steps.specs.Running.{IsRunning, Stops, undone_step}
use Rattle.engine_steps.specs.Tending.{GoesTo, HasExpired, IsCheckpointed, IsCutOff, IsKeptWithout, StepIsDone, counted_on}
use Rattle.engine_steps.specs.declared.error.EngineError.{EngineError}
use Rattle.engine_steps.specs.declared.error.EngineError.TheVariants.{Disk, Limit, Memory}

-- ---- what a run becomes

-- .. by a call that may let files expire at this moment: it goes on, at the time that it had where none did, or an
-- error stops it
pub record RunsOnTended {D A : Type 0} (result : Result A EngineError) (expired : A) (tells : Bool) (held : D → Files)
    (moment_of : D → ℕ) (images : D → ℕ → Files → Type 0) (moment : ℕ) (e_old e_new : EngineState) (old new : D)
    : Type 0 where
  pub goes_on : (IsErrOf result Disk → ⊥) → (opened : Machine) (first : D) (start : Start) (time : ℕ)
      (left : List NamedFile) (out : Outgoing) → time ≤ moment
      → IsRunning moment_of images e_old opened first start time old left out
      → IsRunning moment_of images e_new opened first start moment new left out
  pub idle : (IsErrOf result Disk → ⊥) → (result ≡ Ok expired → ⊥) → (opened : Machine) (first : D) (start : Start)
      (time : ℕ) (left : List NamedFile) (out : Outgoing)
      → IsRunning moment_of images e_old opened first start time old left out
      → IsRunning moment_of images e_new opened first start time new left out
  pub stopped : (error : EngineError) → IsErrOf result error → (opened : Machine) (first : D) (start : Start) (time : ℕ)
      (left : List NamedFile) (out : Outgoing) → time ≤ moment
      → IsRunning moment_of images e_old opened first start time old left out
      → Stops error tells held moment_of images e_new opened first start moment new left out
      (undone_step error (expiry_in e_old moment))

-- .. by a call that makes no step: it goes on at the time that it had, or an error stops it then
pub record RunsOnSpared {D A : Type 0} (result : Result A EngineError) (tells : Bool) (held : D → Files)
    (moment : D → ℕ) (images : D → ℕ → Files → Type 0) (e_old e_new : EngineState) (old new : D) : Type 0 where
  pub goes_on : (IsErrOf result Disk → ⊥) → (opened : Machine) (first : D) (start : Start) (time : ℕ)
      (left : List NamedFile) (out : Outgoing)
      → IsRunning moment images e_old opened first start time old left out
      → IsRunning moment images e_new opened first start time new left out
  pub stopped : (error : EngineError) → IsErrOf result error → (opened : Machine) (first : D) (start : Start) (time : ℕ)
      (left : List NamedFile) (out : Outgoing) (next : Option Step)
      → IsRunning moment images e_old opened first start time old left out
      → Stops error tells held moment images e_new opened first start time new left out next

-- ---- what each call leaves of any engine

-- It is ready, unless the disk failed, and of the same run, with the names that it had, who worked last, and the sessions
-- in flight. Only claims, files of events, the log and what may follow it are written. The disk's error is answered only
-- where it failed.
pub record LeavesTended {D A : Type 0} (result : Result A EngineError) (tells : Bool) (held : D → Files)
    (moment : D → ℕ) (images : D → ℕ → Files → Type 0) (faults : D → ℕ) (e_old e_new : EngineState) (old new : D)
    : Type 0 where
  pub ready : (IsErrOf result Disk → ⊥) → EngineIsReady tells held moment images e_new new
  pub same : IsOfSameRun e_old e_new
  pub listing : e_new.listing ≡ e_old.listing
  pub last : e_new.last ≡ e_old.last
  pub out : e_new.out ≡ e_old.out
  pub next_session : e_new.next_session ≡ e_old.next_session
  pub failed : e_new.failed ≡ e_old.failed
  pub alone : WritesLog moment images e_old.store.log.number old new
  pub cause : CountsFaults (faults old) (faults new) (IsErrOf result Disk)

-- ---- files expire

-- What a call leaves that lets expired files go, at a disk whose moment is then this one. If there were any the journal
-- has an entry more, of these; where the disk failed, one that isn't acknowledged; and else neither it, what the store
-- keeps nor the disk changes. Only an entry is counted. If there were none, nothing is done.
pub record LetsExpiredGo {D : Type 0} (result : Result Bool EngineError) (moment now : ℕ) (e_old e_new : EngineState)
    (old new : D) : Type 0 where
  pub expired : result ≡ Ok true → HasExpired moment (Some now) e_old e_new
      × (e_new.since_reclaim ≡ counted_on e_old.since_reclaim)
  pub cut_off : IsErrOf result Disk → HasExpired moment None e_old e_new
  pub kept : (error : EngineError) → IsErrOf result error → (error ≡ Disk → ⊥)
      → (e_new.journal ≡ e_old.journal) × (kept_by e_new.store ≡ kept_by e_old.store) × (new ≡ old)
  pub since : (error : EngineError) → IsErrOf result error → e_new.since_reclaim ≡ e_old.since_reclaim
  pub none : result ≡ Ok false → (e_new ≡ e_old) × (new ≡ old)

-- How files don't expire: the disk failed, memory was wanting, or a limit would be passed. That is one by which the
-- store refused the change, or that of a full journal.
pub record RefusesExpiry {D A : Type 0} (result : Result A EngineError) (tells : Bool) (held : D → Files)
    (moment : D → ℕ) (images : D → ℕ → Files → Type 0) (e_old e_new : EngineState) (new : D) : Type 0 where
  pub kinds : IfErr result (λ error. (error ≡ Disk) ⊎ (error ≡ Memory)
      ⊎ ((limit : TheLimit) × (error ≡ Limit limit)))
  pub limited : (limit : TheLimit) → IsErrOf result (Limit limit)
      → IsRefused e_old.flow tells held moment images limit e_new.store new
      ⊎ (IsJournalFull limit e_old.most e_new.journal
      × IsAtWork e_old.flow tells held moment images e_new.store new)

-- What becomes of a step that a machine has, where files stood for that machine: it is done; the disk failed and it is
-- cut off; or a limit is told, and is one that it would pass.
pub record StepIsTaken {D A : Type 0} (result : Result A EngineError) (flow : Flow) (tells : Bool) (held : D → Files)
    (moment : D → ℕ) (images : D → ℕ → Files → Type 0) (lot : ℕ) (before : Machine) (one : Step) (old new : D)
    : Type 0 where
  pub done : OnOk result (StepIsDone flow moment images lot before one old new)
  pub cut_off : IsErrOf result Disk → IsCutOff flow moment images lot before one old new
  pub limited : (limit : TheLimit) → IsErrOf result (Limit limit) → GoesTo flow before one (λ after.
      StandsFor flow lot before (held old) × IsAtStoreLimit flow tells held moment images limit before one after old)

-- What a store's commit leaves by which files of these numbers expire: they are gone of what it keeps, also where the
-- disk failed. Its lot, its id and its log's number stay, and only claims, files of events, the log and what may follow
-- it are written. Any error but the disk's comes before it.
pub record CommitsExpiry {D : Type 0} (result : Result ℕ EngineError) (moment : D → ℕ)
    (images : D → ℕ → Files → Type 0) (numbers : List ℕ) (s t : StoreState) (queues now_queues : List QueueState)
    (old new : D) : Type 0 where
  pub moment_is : IfOk result (λ answer. answer ≡ moment new)
  pub unwritten : (error : EngineError) → IsErrOf result error → (error ≡ Disk → ⊥)
      → (new ≡ old) × (t ≡ s) × (now_queues ≡ queues)
  pub kept : OnOk result (IsKeptWithout numbers (kept_by s) (kept_by t))
  pub cut_off : IsErrOf result Disk → IsKeptWithout numbers (kept_by s) (kept_by t)
  pub lot : t.lot ≡ s.lot
  pub id : (kept_by t).store ≡ (kept_by s).store
  pub log : t.log.number ≡ s.log.number
  pub alone : WritesLog moment images s.log.number old new

-- How a store doesn't let files expire: the disk failed, memory was wanting, or it refused the change by a limit. The
-- disk's error is answered only where it failed.
pub record StoreRefusesExpiry {D A : Type 0} (result : Result A EngineError) (flow : Flow) (tells : Bool)
    (held : D → Files) (moment : D → ℕ) (images : D → ℕ → Files → Type 0) (faults : D → ℕ) (t : StoreState)
    (old new : D) : Type 0 where
  pub kinds : IfErr result (λ error. (error ≡ Disk) ⊎ (error ≡ Memory)
      ⊎ ((limit : TheLimit) × (error ≡ Limit limit)))
  pub limited : (limit : TheLimit) → IsErrOf result (Limit limit)
      → IsRefused flow tells held moment images limit t new
  pub cause : CountsFaults (faults old) (faults new) (IsErrOf result Disk)

-- ---- a new log, and claims

-- What a call of a store at work leaves that changes nothing that it keeps. Whatever a stop leaves stands for the same
-- state, and after a call that ended well the store is at work. Only claims, files of events, the log and what may
-- follow it are written.
pub record SparesStore {D A : Type 0} (result : Result A EngineError) (tells : Bool) (held : D → Files)
    (moment : D → ℕ) (images : D → ℕ → Files → Type 0) (s t : StoreState) (old new : D) : Type 0 where
  pub spared : (flow : Flow) (before : Machine) → IsAtWork flow tells held moment images s old
      → InEach (images old (moment old)) (StandsFor flow s.lot before)
      → IsSpared flow moment images s.lot before old new
  pub work : OnOk result ((flow : Flow) → IsAtWork flow tells held moment images s old
      → IsAtWork flow tells held moment images t new)
  pub kept : kept_by t ≡ kept_by s
  pub lot : t.lot ≡ s.lot
  pub alone : WritesLog moment images s.log.number old new

-- The store's log is the next one, and short. For want of memory nothing was done.
pub record LogIsBegun {D A : Type 0} (result : Result A EngineError) (moment : D → ℕ)
    (images : D → ℕ → Files → Type 0) (s t : StoreState) (old new : D) : Type 0 where
  pub next : OnOk result (IsCheckpointed s t)
  pub short : OnOk result ((checkpoint : ℕ) → IsShortOn moment images checkpoint new)
  pub log : OnOk result (IsNoEarlier s.log.number t.log.number)
  pub unwritten : IsErrOf result Memory → (new ≡ old) × (t ≡ s)

-- What a call leaves of an engine that begins a new log where that is due. Where it isn't, nothing is done, and the log
-- is short. What the store keeps stays; and of the engine nothing but the store changes, and what it knows of what is
-- due.
pub record BeginsLog {D : Type 0} (result : Result Bool EngineError) (moment : D → ℕ)
    (images : D → ℕ → Files → Type 0) (e_old e_new : EngineState) (old new : D) : Type 0 where
  pub made : result ≡ Ok true → IsCheckpointed e_old.store e_new.store
  pub none : result ≡ Ok false → (e_new ≡ e_old) × (new ≡ old)
  pub short : result ≡ Ok false → IsShortOn moment images e_old.checkpoint old
  pub unwritten : IsErrOf result Memory → new ≡ old
  pub kept : kept_by e_new.store ≡ kept_by e_old.store
  pub rest : e_new ≡ record e_old { store = e_new.store; tended = e_new.tended }

-- The same of one that reclaims claims: of those without a live content each is empty then, and they are counted anew.
pub record ReclaimsClaims {D : Type 0} (result : Result (Option TheCount) EngineError) (e_old e_new : EngineState)
    (old new : D) : Type 0 where
  pub done : (answer : TheCount) → result ≡ Ok (Some answer)
      → IsReclaimed e_old.store.slots e_new.store.slots answer × (e_new.since_reclaim ≡ 0)
  pub none : result ≡ Ok None → (e_new ≡ e_old) × (new ≡ old)
  pub since : IsErrOf result Disk → e_new.since_reclaim ≡ e_old.since_reclaim
  pub kept : kept_by e_new.store ≡ kept_by e_old.store
  pub rest : e_new ≡ record e_old
      { store = e_new.store; since_reclaim = e_new.since_reclaim; tended = e_new.tended }
