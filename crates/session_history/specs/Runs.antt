-- How a run goes on as its engine's sessions are played, whichever are in flight together, and how it stops.
use Rattle.std.specs.Prelude.{◌≡◌, ◌⊎◌, ◌↔◌, ℕ, ◌≤◌, Bool, false, true, Contains, List, [], Option, Some, Result, Ok, IfErr, IfOk, IfSome, IsErrOf, MatchResult}
use Rattle.disk_trait.specs.Files.{Files}
use Rattle.disk_trait.specs.Images.{Stays}
use Rattle.flowfile_record.specs.NamedFile.{NamedFile}
use Rattle.flowfile_wal.specs.Calls.{InEach}
use Rattle.machine_model.specs.declared.flow.Flow.{Flow}
use Rattle.machine_model.specs.declared.journal.Step.{Step}
use Rattle.machine_model.specs.declared.journal.Step.TheVariants.{Expire}
use Rattle.machine_model.specs.Acknowledged.{steps}
use Rattle.machine_model.specs.Due.{due_expiry}
use Rattle.machine_model.specs.State.{Machine}
use Rattle.store_core.specs.Store.{StoreState}
use Rattle.engine_choice.specs.Laws.{IsMachineEnd}
use Rattle.engine_choice.specs.declared.choice.Ending.{Ending}
use Rattle.kept_state.specs.declared.limit.Limit.{Limit as TheLimit}
use Rattle.run_law.specs.Puts.{Outgoing, Start}
use Rattle.run_law.specs.Run.{StandsFor}
use Rattle.engine_session.specs.declared.done.Done.{Done}
use Rattle.engine_session.specs.declared.job.Job.{Job}
use Rattle.engine_steps.specs.Checkout.{ChecksOut, checkout_in, checkout_of_ending}
use Rattle.engine_steps.specs.Commit.{IsJournaled, TakesWhatStands}
use Rattle.engine_steps.specs.Ending.{EndsSession}
use Rattle.engine_steps.specs.Engine.{EngineState, IsOfSameRun}
use Rattle.engine_steps.specs.Errors.{OnlyReads}
use Rattle.engine_steps.specs.Flights.{is_in_flight}
use Rattle.engine_steps.specs.Opening.{IsOpened}
use Rattle.engine_steps.specs.Ready.{IsReadyInMemory}
use Rattle.engine_steps.specs.Running.{CommitsRun, IsRunning, Stops, TendsRun}
use Rattle.engine_steps.specs.Showing.{EngineShowsState}
use Rattle.engine_steps.specs.Tending.{TendsAlone, TendsFirst}
use Rattle.engine_steps.specs.declared.checkout.Checkout.{Checkout}
use Rattle.engine_steps.specs.declared.checkout.Checkout.TheVariants.{Limit as OutOfRoom}
use Rattle.engine_steps.specs.declared.commit.Committed.{Committed}
use Rattle.engine_steps.specs.declared.commit.Committed.TheVariants.{Dropped}
use Rattle.engine_steps.specs.declared.error.EngineError.{EngineError}
use Rattle.engine_steps.specs.declared.error.EngineError.TheVariants.{Disk, Limit, Memory, Put}
use Rattle.engine_steps.specs.declared.flight.InFlight.{InFlight}
use Rattle.engine_steps.specs.declared.tending.Tended.{Tended}
use Rattle.session_history.specs.History.{ComesNextBeside, IsPlayed, Move, Play, queues_beside, step_in_flight, unplayed}
use Rattle.session_history.specs.Laws.{IsAtPlay}

-- ---- the history of a journal

-- the step is that of a session in flight, ..
pub record IsStepOfFlight (p : Play) (one : Step) : Type 0 where
  pub flight : InFlight
  pub flying : Contains p.out flight
  pub there : Bool
  pub is : one ≡ step_in_flight flight there

-- .. or of the session that comes next beside these, ..
pub record IsStepOfNext (flow : Flow) (p : Play) (until : ℕ) (one : Step) : Type 0 where
  pub flight : InFlight
  pub behind : Play
  pub comes : ComesNextBeside flow p flight behind
  pub by : flight.moment ≤ until
  pub there : Bool
  pub is : one ≡ step_in_flight flight there

-- .. or by it files expire, none of those in flight.
pub record IsStepOfExpiry (flow : Flow) (p : Play) (until : ℕ) (one : Step) : Type 0 where
  pub moment : ℕ
  pub later : p.moment ≤ moment
  pub by : moment ≤ until
  pub connection : ℕ
  pub numbers : List ℕ
  pub due : due_expiry flow (queues_beside p) moment ≡ Some (connection, numbers)
  pub is : one ≡ Expire connection numbers moment

-- the step may be the next one that is made, up to this time
abbrev pub MayBeMadeNext : Flow → Play → (until : ℕ) → Step → Type 0
MayBeMadeNext flow p until one =
    IsStepOfFlight p one ⊎ IsStepOfNext flow p until one ⊎ IsStepOfExpiry flow p until one

-- The steps are those that a history makes which began at this machine and time and has come to this time at most; and
-- the step at which it stopped behind them, if at one, may be the next one.
pub record IsHistoryOf (flow : Flow) (since until : ℕ) (opened : Machine) (all : List Step) (stopped : Option Step)
    : Type 0 where
  pub moves : List Move
  pub reached : Play
  pub played : IsPlayed flow (unplayed opened since) moves reached
  pub made : reached.made ≡ all
  pub by : reached.moment ≤ until
  pub next : IfSome stopped (MayBeMadeNext flow reached until)

-- ---- a run

-- The run goes on, and its engine is at a point of a history that has come to this time at most.
pub record RunsAsPlayed {D : Type 0} (moment_of : D → ℕ) (images : D → ℕ → Files → Type 0) (e : EngineState)
    (opened : Machine) (first : D) (start : Start) (time : ℕ) (now : D) (left : List NamedFile)
    (out : Outgoing) : Type 0 where
  pub run : IsRunning moment_of images e opened first start time now left out
  pub moves : List Move
  pub reached : Play
  pub played : IsPlayed e.flow (unplayed opened start.time) moves reached
  pub at : IsAtPlay e reached
  pub by : reached.moment ≤ time

-- An error has stopped it, at this step, if at one; and its journal is that of a history.
pub record StopsAsPlayed {D : Type 0} (error : EngineError) (tells : Bool) (held : D → Files) (moment_of : D → ℕ)
    (images : D → ℕ → Files → Type 0) (e : EngineState) (opened : Machine) (first : D) (start : Start) (time : ℕ)
    (now : D) (left : List NamedFile) (out : Outgoing) : Type 0 where
  pub next : Option Step
  pub stops : Stops error tells held moment_of images e opened first start time now left out next
  pub history : IsHistoryOf e.flow start.time time opened (steps e.journal) next

-- What a call makes of each run that had come to the engine's old state by this time: at an answer it goes on, at this
-- time, and an error has stopped it.
abbrev pub PlaysOn : {A D : Type 0} → Result A EngineError → (tells : Bool) → (D → Files) → (D → ℕ)
    → (D → ℕ → Files → Type 0) → (e_old e_new : EngineState) → (at : ℕ) → (old new : D)
    → (left now_left : List NamedFile) → (out now_out : Outgoing) → Type 0
PlaysOn {D = D} result tells held moment_of images e_old e_new at old new left now_left out now_out =
    (opened : Machine) (first : D) (start : Start) (time : ℕ) → time ≤ at
    → RunsAsPlayed moment_of images e_old opened first start time old left out
    → MatchResult result
    (λ answer. RunsAsPlayed moment_of images e_new opened first start at new now_left now_out)
    (λ error. StopsAsPlayed error tells held moment_of images e_new opened first start at new now_left now_out)

-- ---- laws

-- the engine has failed only where the disk or a put did, and where a put did
pub record FailsByDevices {A : Type 0} (result : Result A EngineError) (e : EngineState) : Type 0 where
  pub only : e.failed ≡ true → IsErrOf result Disk ⊎ IsErrOf result Put
  pub from_put : IsErrOf result Put → e.failed ≡ true

-- the engine shows each state that the disk stands for
abbrev pub ShowsWhatStands : {D : Type 0} → (D → ℕ) → (D → ℕ → Files → Type 0) → EngineState → D → Type 0
ShowsWhatStands moment_of images e disk =
    (m : Machine) → InEach (images disk (moment_of disk)) (StandsFor e.flow e.store.lot m) → EngineShowsState e m

-- an engine that was opened begins one
abbrev pub OpenedRunsArePlayed : {D : Type 0} → (D → ℕ) → (D → ℕ → Files → Type 0) → Type 0
OpenedRunsArePlayed {D = D} moment_of images =
    (flow : Flow) (store : StoreState) (most checkpoint : ℕ) (e : EngineState) (opened : Machine) (first : D)
    (start : Start) (time : ℕ) (now : D) (left : List NamedFile) (out : Outgoing)
    → IsOpened flow store most checkpoint e → IsRunning moment_of images e opened first start time now left out
    → RunsAsPlayed moment_of images e opened first start time now left out

-- time goes by, ..
abbrev pub PlayedRunsWait : {D : Type 0} → (D → Files) → (D → ℕ) → (D → ℕ → Files → Type 0) → Type 0
PlayedRunsWait {D = D} held moment_of images =
    (e : EngineState) (opened : Machine) (first : D) (start : Start) (time later : ℕ) (now : D)
    (left : List NamedFile) (out : Outgoing) → time ≤ later
    → RunsAsPlayed moment_of images e opened first start time now left out
    → RunsAsPlayed moment_of images e opened first start later now left out

-- .. or memory ends
abbrev pub PlayedRunsWant : {D : Type 0} → (tells : Bool) → (D → Files) → (D → ℕ) → (D → ℕ → Files → Type 0) → Type 0
PlayedRunsWant {D = D} tells held moment_of images =
    (e : EngineState) (opened : Machine) (first : D) (start : Start) (time : ℕ) (now : D)
    (left : List NamedFile) (out : Outgoing)
    → RunsAsPlayed moment_of images e opened first start time now left out
    → StopsAsPlayed Memory tells held moment_of images e opened first start time now left out

-- .. by a call that tends
abbrev pub TendingPlaysOn : {D : Type 0} → (tells : Bool) → (D → Files) → (D → ℕ) → (D → ℕ → Files → Type 0) → Type 0
TendingPlaysOn {D = D} tells held moment_of images =
    (result : Result Tended EngineError) (moment : ℕ) (e f : EngineState) (old new : D) (left : List NamedFile)
    (out : Outgoing) → ShowsWhatStands moment_of images e old → e.failed ≡ false → FailsByDevices result f
    → TendsFirst result moment_of images moment e f old new → TendsAlone result moment_of images e f old new
    → TendsRun result tells held moment_of images moment e f old new
    → PlaysOn result tells held moment_of images e f moment old new left left out out

-- .. by a checkout: a session is in flight, or none comes
abbrev pub CheckoutPlaysOn : {D : Type 0} → (tells : Bool) → (D → Files) → (D → ℕ) → (D → ℕ → Files → Type 0) → Type 0
CheckoutPlaysOn {D = D} tells held moment_of images =
    (result : Result Checkout EngineError) (moment : ℕ) (e f : EngineState) (now : D) (left : List NamedFile)
    (out : Outgoing) → ShowsWhatStands moment_of images e now → IsReadyInMemory e
    → IfOk result (λ answer. answer ≡ checkout_in e moment) → ChecksOut result moment e f
    → IfErr result (λ error. (limit : TheLimit) → error ≡ Limit limit → ⊥)
    → PlaysOn result tells held moment_of images e f moment now now left left out out

-- .. but where the journal has no room for its entry: that stops it
abbrev pub FullJournalsStop : {D : Type 0} → (tells : Bool) → (D → Files) → (D → ℕ) → (D → ℕ → Files → Type 0) → Type 0
FullJournalsStop {D = D} tells held moment_of images =
    (limit : TheLimit) (moment : ℕ) (e : EngineState) (now : D) (left : List NamedFile)
    (out : Outgoing) → ShowsWhatStands moment_of images e now → IsReadyInMemory e
    → images now (moment_of now) (held now) → checkout_in e moment ≡ OutOfRoom limit
    → (opened : Machine) (first : D) (start : Start) (time : ℕ) → time ≤ moment
    → RunsAsPlayed moment_of images e opened first start time now left out
    → StopsAsPlayed (Limit limit) tells held moment_of images e opened first start moment now left out

-- .. or where nothing is left to do, or all of it is held back: no session is in flight, and that is so of the machine
abbrev pub EndsAreOfTheMachine : {D : Type 0} → (D → ℕ) → (D → ℕ → Files → Type 0) → Type 0
EndsAreOfTheMachine {D = D} moment_of images =
    (end : Ending) (moment : ℕ) (e : EngineState) (now : D) (left : List NamedFile) (out : Outgoing)
    → ShowsWhatStands moment_of images e now → IsReadyInMemory e → checkout_in e moment ≡ checkout_of_ending end
    → (opened : Machine) (first : D) (start : Start) (time : ℕ)
    → (run : IsRunning moment_of images e opened first start time now left out)
    → (e.out ≡ []) × IsMachineEnd e.flow run.reached.state run.reached.world moment end

-- .. by a session that is read
abbrev pub ReadingPlaysOn : {D : Type 0} → (tells : Bool) → (D → Files) → (D → ℕ) → (D → ℕ → Files → Type 0) → Type 0
ReadingPlaysOn {D = D} tells held moment_of images =
    (result : Result Job EngineError) (e f : EngineState) (old new : D) (left now_left : List NamedFile)
    (out now_out : Outgoing) (at : ℕ) → OnlyReads result e f → Stays held moment_of images old new
    → now_left ≡ left → now_out ≡ out → ((limit : TheLimit) → IsErrOf result (Limit limit) → ⊥)
    → PlaysOn result tells held moment_of images e f at old new left now_left out now_out

-- .. by a session that is committed, whatever the work is
abbrev pub CommitPlaysOn : {D : Type 0} → (tells : Bool) → (D → Files) → (D → ℕ) → (D → ℕ → Files → Type 0) → Type 0
CommitPlaysOn {D = D} tells held moment_of images =
    (result : Result Committed EngineError) (in_tells out_tells : Bool) (done : Done) (e f : EngineState) (old new : D)
    (left now_left : List NamedFile) (out now_out : Outgoing) (at : ℕ) → IsReadyInMemory e → e.failed ≡ false
    → IsJournaled result done (moment_of new) e f
    → TakesWhatStands result tells in_tells out_tells held moment_of images done e f old new left out now_out
    → CommitsRun result tells held moment_of images done e f old new left now_left out now_out
    → IsOfSameRun e f → (result ≡ Ok Dropped) ↔ (is_in_flight done.session e.out ≡ false) → FailsByDevices result f
    → PlaysOn result tells held moment_of images e f at old new left now_left out now_out

-- .. by a session that ends
abbrev pub EndingPlaysOn : {D : Type 0} → (D → ℕ) → (D → ℕ → Files → Type 0) → Type 0
EndingPlaysOn {D = D} moment_of images =
    (session : ℕ) (e f : EngineState) (opened : Machine) (first : D) (start : Start) (time : ℕ) (now : D)
    (left : List NamedFile) (out : Outgoing) → e.failed ≡ false → EndsSession session e f
    → RunsAsPlayed moment_of images e opened first start time now left out
    → RunsAsPlayed moment_of images f opened first start time now left out

-- .. also behind an error
abbrev pub EndingStaysStopped : {D : Type 0} → (tells : Bool) → (D → Files) → (D → ℕ) → (D → ℕ → Files → Type 0)
    → Type 0
EndingStaysStopped {D = D} tells held moment_of images =
    (session : ℕ) (error : EngineError) (e f : EngineState) (opened : Machine) (first : D) (start : Start) (time : ℕ)
    (now : D) (left : List NamedFile) (out : Outgoing) → EndsSession session e f
    → ((limit : TheLimit) → error ≡ Limit limit → e.failed ≡ false)
    → StopsAsPlayed error tells held moment_of images e opened first start time now left out
    → StopsAsPlayed error tells held moment_of images f opened first start time now left out
