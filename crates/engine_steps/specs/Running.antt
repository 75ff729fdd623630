-- What holds between two calls of an engine, where the devices tell what they hold.
use Rattle.std.specs.Prelude.{◌≡◌, ℕ, ◌≤◌, Bool, false, List, Option, None, Some, Result, Ok, IsErrOf}
use Rattle.disk_trait.specs.Files.{Files}
use Rattle.flowfile_record.specs.NamedFile.{NamedFile}
use Rattle.kept_state.specs.declared.limit.Limit.{Limit as TheLimit}
use Rattle.machine_model.specs.declared.journal.Step.{Step}
use Rattle.machine_model.specs.Acknowledged.{steps}
use Rattle.machine_model.specs.State.{Machine}
use Rattle.engine_choice.specs.Choice.{coming_of}
use Rattle.run_law.specs.Going.{IsRunningAt}
use Rattle.run_law.specs.Run.{HasRun, IsAtLimit}
use Rattle.run_law.specs.Puts.{Outgoing, Start}
use Rattle.run_law.specs.Turns.{last_worker}
use Rattle.engine_session.specs.Done.{step_done}
use Rattle.engine_session.specs.declared.done.Done.{Done}
use Rattle.engine_steps.specs.Engine.{EngineState}
use Rattle.engine_steps.specs.Errors.{ended_by}
use Rattle.engine_steps.specs.Ready.{expiry_in}
use Rattle.engine_steps.specs.declared.error.EngineError.{EngineError}
use Rattle.engine_steps.specs.declared.error.EngineError.TheVariants.{Inbox, Limit, Put}
use Rattle.engine_steps.specs.declared.tending.Tended.{Tended}
use Rattle.engine_steps.specs.Flights.{IsCheckedOutWithin, names_to_come}
use Rattle.engine_steps.specs.declared.tending.Tended.TheVariants.{Expired}

-- The engine's journal, of steps from the clock's time at the start up to this time, leads from the opened machine to
-- this one; and the engine knows which files are to come, and which processor got the last session.
pub record IsRunningTo {D : Type 0} (moment : D → ℕ) (images : D → ℕ → Files → Type 0) (e : EngineState)
    (opened : Machine) (first : D) (start : Start) (time : ℕ) (now : D) (left : List NamedFile)
    (out : Outgoing) (reached : Machine) : Type 0 where
  pub run : IsRunningAt e.flow start time moment images e.store.lot opened first now e.journal reached left out
  pub coming : coming_of reached.world ≡ names_to_come e
  pub last : e.last ≡ last_worker None (steps e.journal)

-- it leads to some machine
pub record IsRunning {D : Type 0} (moment : D → ℕ) (images : D → ℕ → Files → Type 0) (e : EngineState)
    (opened : Machine) (first : D) (start : Start) (time : ℕ) (now : D) (left : List NamedFile)
    (out : Outgoing) : Type 0 where
  pub reached : Machine
  pub to : IsRunningTo moment images e opened first start time now left out reached

-- the step of which an error tells where it stopped a run: the one that would have passed a limit, or whose put failed
abbrev pub undone_step : EngineError → (one : Option Step) → Option Step
undone_step (Limit limit) one = one
undone_step Put one = one
undone_step error one = None

-- A limit stopped the run at this step, before it was made. The store is yet to be closed.
pub record IsLimited {D : Type 0} (tells : Bool) (held : D → Files) (moment : D → ℕ) (images : D → ℕ → Files → Type 0)
    (e : EngineState) (limit : TheLimit) (opened : Machine) (first : D) (start : Start) (time : ℕ) (now : D)
    (left : List NamedFile) (out : Outgoing) (next : Option Step) : Type 0 where
  pub reached : Machine
  pub to : IsRunningTo moment images e opened first start time now left out reached
  pub met : IsAtLimit e.flow start time tells held moment images e.store.lot e.journal next reached limit now

-- What an error leaves at this step, if at one: behind a limit the store is yet to be closed, and behind any other the run
-- has ended, at this time of the clock or at a later one.
abbrev pub Stops : {D : Type 0} → EngineError → (tells : Bool) → (D → Files) → (D → ℕ) → (D → ℕ → Files → Type 0)
    → EngineState → Machine → (first : D) → (start : Start) (time : ℕ) → (now : D) → List NamedFile
    → Outgoing → (next : Option Step) → Type 0
Stops (Limit limit) tells held moment images e opened first start time now left out next =
    IsLimited tells held moment images e limit opened first start time now left out next
Stops error tells held moment images e opened first start time now left out next =
    (later : ℕ) → time ≤ later
    → HasRun e.flow (ended_by error) start later tells held moment images e.store.lot opened first now left out
    e.journal next

-- ---- what a run becomes

-- .. by a call that tends at this moment: it goes on, at the time that it had where no files expired, or it is stopped
pub record TendsRun {D : Type 0} (result : Result Tended EngineError) (tells : Bool) (held : D → Files)
    (moment_of : D → ℕ) (images : D → ℕ → Files → Type 0) (moment : ℕ) (e_old e_new : EngineState) (old new : D)
    : Type 0 where
  pub goes_on : e_new.failed ≡ false → (opened : Machine) (first : D) (start : Start) (time : ℕ) (left : List NamedFile)
      (out : Outgoing) → time ≤ moment
      → IsRunning moment_of images e_old opened first start time old left out
      → IsRunning moment_of images e_new opened first start moment new left out
  pub idle : e_new.failed ≡ false → (result ≡ Ok Expired → ⊥) → (opened : Machine) (first : D) (start : Start)
      (time : ℕ)
      (left : List NamedFile) (out : Outgoing)
      → IsRunning moment_of images e_old opened first start time old left out
      → IsRunning moment_of images e_new opened first start time new left out
  pub stopped : (error : EngineError) → IsErrOf result error → e_old.failed ≡ false → (opened : Machine) (first : D)
      (start : Start) (time : ℕ) (left : List NamedFile) (out : Outgoing) → time ≤ moment
      → IsRunning moment_of images e_old opened first start time old left out
      → Stops error tells held moment_of images e_new opened first start moment new left out
      (undone_step error (expiry_in e_old moment))

-- .. by the commit of this work, whose session was checked out at any moment of the run: it goes on, unless a file that
-- was received couldn't be removed, or it is stopped
pub record CommitsRun {D A : Type 0} (result : Result A EngineError) (tells : Bool) (held : D → Files)
    (moment : D → ℕ) (images : D → ℕ → Files → Type 0) (done : Done) (e_old e_new : EngineState) (old new : D)
    (left now_left : List NamedFile) (out now_out : Outgoing) : Type 0 where
  pub goes_on : e_new.failed ≡ false → (IsErrOf result Inbox → e_new.journal ≡ e_old.journal) → (opened : Machine)
      (first : D) (start : Start) (time : ℕ) → IsCheckedOutWithin start.time time done.session e_old.out
      → IsRunning moment images e_old opened first start time old left out
      → IsRunning moment images e_new opened first start time new now_left now_out
  pub stopped : (error : EngineError) → IsErrOf result error → e_old.failed ≡ false → (opened : Machine) (first : D)
      (start : Start) (time : ℕ) → IsCheckedOutWithin start.time time done.session e_old.out
      → IsRunning moment images e_old opened first start time old left out
      → Stops error tells held moment images e_new opened first start time new now_left now_out
      (undone_step error (Some (step_done done)))
