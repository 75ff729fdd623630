-- What a call that drives an engine's run needs, and what it leaves.
use Rattle.std.specs.Prelude.{◌≡◌, ◌⊎◌, ℕ, ◌≤◌, Bool, true, IsTrue, List, [], ◌∷◌, ◌++◌, Option, None, Some, Result, MatchResult, OnOk, IsErrOf}
use Rattle.disk_trait.specs.Files.{Files}
use Rattle.flowfile_record.specs.NamedFile.{NamedFile}
use Rattle.machine_model.specs.declared.flow.Flow.{Flow}
use Rattle.machine_model.specs.declared.journal.Entry.{Entry}
use Rattle.machine_model.specs.declared.journal.Step.{Step}
use Rattle.machine_model.specs.Acknowledged.{steps}
use Rattle.machine_model.specs.State.{Machine}
use Rattle.engine_choice.specs.Laws.{IsEndAt}
use Rattle.engine_choice.specs.declared.choice.Ending.{Ending}
use Rattle.engine_choice.specs.declared.choice.Ending.TheVariants.{Rest}
use Rattle.flowfile_wal.specs.Calls.{InEach}
use Rattle.run_law.specs.Puts.{Outgoing, Start}
use Rattle.run_law.specs.Run.{StandsFor}
use Rattle.run_law.specs.Turns.{AreMadeAt, ComeInTurn, IsInTurn, step_moment}
use Rattle.run_law.specs.Work.{WritesLog}
use Rattle.engine_steps.specs.Checkout.{HasCheckedOut}
use Rattle.engine_steps.specs.Closing.{Shows}
use Rattle.engine_steps.specs.Engine.{EngineState, IsOfSameRun}
use Rattle.engine_steps.specs.Errors.{HasCause}
use Rattle.engine_steps.specs.Leaving.{MayGoOn}
use Rattle.engine_steps.specs.Ready.{IsUsable}
use Rattle.engine_steps.specs.Running.{IsRunning, IsRunningTo, Stops}
use Rattle.engine_steps.specs.Showing.{EngineShowsState}
use Rattle.engine_steps.specs.declared.close.Closed.{Closed}
use Rattle.engine_steps.specs.declared.error.EngineError.{EngineError}
use Rattle.engine_steps.specs.declared.error.EngineError.TheVariants.{Disk, MustReopen, NoSession, Put}

-- ---- whatever the devices tell

-- the engine may go on, and no session is in flight
pub record MayTurn {D : Type 0} (tells : Bool) (held : D → Files) (moment : D → ℕ) (images : D → ℕ → Files → Type 0)
    (in_tells : Bool) (files : List NamedFile) (e : EngineState) (disk : D) : Type 0 where
  pub may : MayGoOn tells held moment images in_tells files e disk
  pub none : e.out ≡ []

-- What a call leaves. Where it went well, another may follow. The engine has failed only where the disk or a put did, as
-- is answered, and is ready else. The run's constants stay, only what a run writes was written, and each limit and each
-- damage has its cause.
pub record LeavesRun {D A : Type 0} (result : Result A EngineError) (tells : Bool) (held : D → Files) (moment : D → ℕ)
    (images : D → ℕ → Files → Type 0) (in_tells : Bool) (left : List NamedFile) (e_old e_new : EngineState)
    (old new : D) : Type 0 where
  pub may : OnOk result (MayTurn tells held moment images in_tells left e_new new)
  pub usable : IsUsable tells held moment images e_new new
  pub failed : e_new.failed ≡ true → IsErrOf result Disk ⊎ IsErrOf result Put
  pub works : IsErrOf result MustReopen → ⊥
  pub known : IsErrOf result NoSession → ⊥
  pub same : IsOfSameRun e_old e_new
  pub alone : WritesLog moment images e_old.store.log.number old new
  pub why : HasCause result e_old.flow tells held moment images e_old.most e_new.journal e_new.store new

-- The session was checked out as the only one in flight, of an engine that showed each machine's state that the disk
-- stands for.
pub record IsOnlySession {D : Type 0} (tells : Bool) (moment_of : D → ℕ) (images : D → ℕ → Files → Type 0)
    (moment session : ℕ) (e : EngineState) (disk : D) : Type 0 where
  pub before : EngineState
  pub none : before.out ≡ []
  pub checked_out : HasCheckedOut moment session before e
  pub shows : IsTrue tells → (m : Machine)
      → InEach (images disk (moment_of disk)) (StandsFor before.flow before.store.lot m) → EngineShowsState before m

-- a turn's journal has one entry more at most, of a step that was made at this moment
abbrev pub GrowsAt : (moment : ℕ) → (old new : List Entry) → Type 0
GrowsAt moment old new =
    (new ≡ old) ⊎ ((entry : Entry) × (step_moment entry.step ≡ moment) × (new ≡ old ++ entry ∷ []))

-- The clock's time doesn't fall. Where each moment of a step was one that the clock gave, it still is; and so is the
-- time, where the call went well.
pub record KeepsTime {A : Type 0} (result : Result A EngineError) (is_given : ℕ → Type 0) (time_old time_new : ℕ)
    (journal_old journal_new : List Entry) : Type 0 where
  pub later : time_old ≤ time_new
  pub moments : AreMadeAt is_given journal_old → AreMadeAt is_given journal_new
  pub given : OnOk result (is_given time_new)

-- what is handed over of a run whose store was closed: a journal of these entries, and what this machine has
pub record HandsOver (flow : Flow) (m : Machine) (entries : List Entry) (closed : Closed) : Type 0 where
  pub journal : closed.journal ≡ entries
  pub shows : Shows flow m closed

-- ---- where all devices tell

-- The run goes on, and the steps of its journal came in turn.
pub record RunsInTurn {D : Type 0} (moment : D → ℕ) (images : D → ℕ → Files → Type 0) (e : EngineState)
    (opened : Machine) (first : D) (start : Start) (time : ℕ) (now : D) (left : List NamedFile)
    (out : Outgoing) : Type 0 where
  pub run : IsRunning moment images e opened first start time now left out
  pub turns : ComeInTurn e.flow None start.time time opened (steps e.journal)

-- An error has stopped it, at this step, if at one; and that came in turn, too.
pub record StopsInTurn {D : Type 0} (error : EngineError) (tells : Bool) (held : D → Files) (moment : D → ℕ)
    (images : D → ℕ → Files → Type 0) (e : EngineState) (opened : Machine) (first : D) (start : Start) (time : ℕ)
    (now : D) (left : List NamedFile) (out : Outgoing) : Type 0 where
  pub next : Option Step
  pub stops : Stops error tells held moment images e opened first start time now left out next
  pub turns : IsInTurn e.flow start.time time opened e.journal next

-- Nothing is left to do, or all of it is held back, at this moment of the clock.
pub record IsEnded {D : Type 0} (ending : Ending) (moment : D → ℕ) (images : D → ℕ → Files → Type 0) (e : EngineState)
    (opened : Machine) (first : D) (start : Start) (time : ℕ) (now : D) (left : List NamedFile)
    (out : Outgoing) : Type 0 where
  pub reached : Machine
  pub to : IsRunningTo moment images e opened first start time now left out reached
  pub turns : ComeInTurn e.flow None start.time time opened (steps e.journal)
  pub ends : IsEndAt e.flow reached.state reached.world time ending

-- what a turn leaves at this moment of the clock: a run that goes on, at once or behind a rest, or one that has ended
abbrev pub IsTurned : {D : Type 0} → Option Ending → (D → ℕ) → (D → ℕ → Files → Type 0) → EngineState
    → (opened : Machine) → (first : D) → (start : Start) (time : ℕ) → (now : D) → List NamedFile → Outgoing → Type 0
IsTurned None moment images e opened first start time now left out =
    RunsInTurn moment images e opened first start time now left out
IsTurned (Some (Rest until)) moment images e opened first start time now left out =
    RunsInTurn moment images e opened first start time now left out
IsTurned (Some ending) moment images e opened first start time now left out =
    IsEnded ending moment images e opened first start time now left out

-- What a call makes of each run that had come to the engine's old state by this time: at an answer the run is so behind
-- it, at the new time, and an error has stopped it.
abbrev pub DrivesRun : {A D : Type 0} → Result A EngineError
    → (behind : A → (D → ℕ) → (D → ℕ → Files → Type 0) → EngineState → Machine → D → Start → ℕ → D → List NamedFile
    → Outgoing → Type 0)
    → (tells in_tells out_tells : Bool) → (D → Files) → (D → ℕ) → (D → ℕ → Files → Type 0)
    → (e_old e_new : EngineState) → (by at : ℕ) → (old new : D) → (left now_left : List NamedFile)
    → (out now_out : Outgoing) → Type 0
DrivesRun {D = D} result behind tells in_tells out_tells held moment images e_old e_new by at old new left now_left
    out now_out =
    IsTrue tells → IsTrue in_tells → IsTrue out_tells → (opened : Machine) (first : D) (start : Start) (time : ℕ)
    → time ≤ by → RunsInTurn moment images e_old opened first start time old left out
    → MatchResult result
    (λ answer. behind answer moment images e_new opened first start at new now_left now_out)
    (λ error. StopsInTurn error tells held moment images e_new opened first start at new now_left now_out)
