-- How a run goes on while workers share its engine, and how it stops.
use Rattle.std.specs.Prelude.{◌≡◌, ◌⊎◌, ℕ, ◌≤◌, Bool, true, IsTrue, All, List, [], Option, None, Some}
use Rattle.disk_trait.specs.Files.{Files}
use Rattle.disk_trait.specs.declared.damage.Damage.{Damage}
use Rattle.flowfile_record.specs.NamedFile.{NamedFile}
use Rattle.kept_state.specs.declared.limit.Limit.{Limit as TheLimit}
use Rattle.machine_model.specs.State.{Machine}
use Rattle.engine_choice.specs.Laws.{IsMachineEnd}
use Rattle.engine_choice.specs.declared.choice.Ending.{Ending}
use Rattle.engine_choice.specs.declared.choice.Ending.TheVariants as ending
use Rattle.run_law.specs.Puts.{Outgoing, Start, outgoing}
use Rattle.run_law.specs.Turns.{AreMadeAt}
use Rattle.run_law.specs.Work.{DoesNotTell, IsAtWork, IsNoEarlier, IsRefused, IsShortOn, WritesLog}
use Rattle.engine_steps.specs.Engine.{EngineState, IsOfSameRun}
use Rattle.engine_steps.specs.Errors.{CountsEachFault, IsJournalFull}
use Rattle.engine_steps.specs.Flights.{names_to_come}
use Rattle.engine_steps.specs.Ready.{IsUsableWith}
use Rattle.engine_steps.specs.declared.error.EngineError.TheVariants.{Damaged, Disk, Limit, MustReopen, NoSession, Put}
use Rattle.session_history.specs.Runs.{RunsAsPlayed, StopsAsPlayed}
use Rattle.flow_workers.specs.Jobs.{AreAsListed}
use Rattle.flow_workers.specs.Seen.{Seen, newly_noted}
use Rattle.flow_workers.specs.declared.cause.Cause.{Cause}
use Rattle.flow_workers.specs.declared.cause.Cause.TheVariants.{Blocked, Quiet, Stopped}

-- ---- where all devices tell

-- The run has come to its end as it was played: no session is in flight, and the machine ends so at this time.
pub record IsPlayedOut {D : Type 0} (end : Ending) (moment : D → ℕ) (images : D → ℕ → Files → Type 0) (e : EngineState)
    (opened : Machine) (first : D) (start : Start) (time : ℕ) (now : D) (left : List NamedFile)
    (out : Outgoing) : Type 0 where
  pub plays : RunsAsPlayed moment images e opened first start time now left out
  pub none : e.out ≡ []
  pub ends : IsMachineEnd e.flow plays.run.reached.state plays.run.reached.world time end

-- A run goes on until a cause is noted. Then it has come to its end, or an error has stopped it.
abbrev pub IsPlayedTo : {D : Type 0} → Option Cause → (tells : Bool) → (D → Files) → (D → ℕ) → (D → ℕ → Files → Type 0)
    → EngineState → (opened : Machine) → (first : D) → Start → (time : ℕ) → (now : D) → List NamedFile → Outgoing
    → Type 0
IsPlayedTo None tells held moment images e opened first start time now left out =
    RunsAsPlayed moment images e opened first start time now left out
IsPlayedTo (Some Quiet) tells held moment images e opened first start time now left out =
    IsPlayedOut ending.Quiet moment images e opened first start time now left out
IsPlayedTo (Some (Blocked connection)) tells held moment images e opened first start time now left out =
    IsPlayedOut (ending.Blocked connection) moment images e opened first start time now left out
IsPlayedTo (Some (Stopped error)) tells held moment images e opened first start time now left out =
    StopsAsPlayed error tells held moment images e opened first start time now left out

-- ---- whatever the devices tell

-- nothing is left to do, or all of it is held back
abbrev pub IsRest : Option Cause → Type 0
IsRest cause = (cause ≡ Some Quiet) ⊎ ((connection : ℕ) × (cause ≡ Some (Blocked connection)))

-- Between two calls the engine is usable. It has failed only where that is the cause. A limit was met, damage comes
-- only of a disk that doesn't tell, and no cause is that of a call that wasn't to be made. At rest no session is in
-- flight, the log is short, and the time is one that the clock gave.
pub record DeskIsInOrder {D I O C : Type 0} (tells : Bool) (held : D → Files) (moment : D → ℕ)
    (images : D → ℕ → Files → Type 0) (in_tells : Bool) (left : I → List NamedFile) (time : C → ℕ)
    (given : ℕ → Type 0) (s : Seen D I O C) : Type 0 where
  pub usable : IsUsableWith tells held moment images in_tells (left s.inbox) s.engine s.disk
  pub failed : s.engine.failed ≡ true → (s.cause ≡ Some (Stopped Disk)) ⊎ (s.cause ≡ Some (Stopped Put))
  pub limited : (limit : TheLimit) → s.cause ≡ Some (Stopped (Limit limit))
      → IsRefused s.engine.flow tells held moment images limit s.engine.store s.disk
      ⊎ (IsJournalFull limit s.engine.most s.engine.journal
      × IsAtWork s.engine.flow tells held moment images s.engine.store s.disk)
  pub damaged : (damage : Damage) → s.cause ≡ Some (Stopped (Damaged damage)) → DoesNotTell tells
  pub works : s.cause ≡ Some (Stopped MustReopen) → ⊥
  pub known : s.cause ≡ Some (Stopped NoSession) → ⊥
  pub rests : IsRest s.cause
      → (s.engine.out ≡ []) × IsShortOn moment images s.engine.checkpoint s.disk × given (time s.clock)

-- each moment at which a step was made, or a session in flight was checked out, is one that the clock gave
abbrev pub AreGiven : (given : ℕ → Type 0) → EngineState → Type 0
AreGiven given e = AreMadeAt given e.journal × All (λ flight. given flight.moment) e.out

-- What becomes of a run that had come to the first by the second. A cause stands once it is noted, and the disk is left
-- alone from then on. The run's constants stay, only what a run writes is written, faults are counted, and the time
-- doesn't fall.
pub record WorkGoesOn {D I O C : Type 0} (tells : Bool) (held : D → Files) (moment : D → ℕ)
    (images : D → ℕ → Files → Type 0) (faults : D → ℕ) (in_tells : Bool) (left : I → List NamedFile)
    (in_faults : I → ℕ) (out_tells : Bool) (standing : O → List ℕ → Option (List ℕ)) (puts : O → List NamedFile)
    (out_faults : O → ℕ) (time : C → ℕ) (given : ℕ → Type 0) (s t : Seen D I O C) : Type 0 where
  -- where all devices tell: what the run was it is still, as its sessions were played
  pub run : IsTrue tells → IsTrue in_tells → IsTrue out_tells → (opened : Machine) (first : D) (start : Start)
      → IsPlayedTo s.cause tells held moment images s.engine opened first start (time s.clock) s.disk (left s.inbox)
      (outgoing standing puts s.outbox)
      → IsPlayedTo t.cause tells held moment images t.engine opened first start (time t.clock) t.disk (left t.inbox)
      (outgoing standing puts t.outbox)
  -- whatever they tell
  pub order : DeskIsInOrder tells held moment images in_tells left time given t
  pub stands : (cause : Cause) → s.cause ≡ Some cause → (t.cause ≡ Some cause) × (t.disk ≡ s.disk)
  pub same : IsOfSameRun s.engine t.engine
  pub log : t.cause ≡ None → IsNoEarlier s.engine.store.log.number t.engine.store.log.number
  pub alone : WritesLog moment images s.engine.store.log.number s.disk t.disk
  pub devices : CountsEachFault (newly_noted s.cause t.cause) (faults s.disk) (faults t.disk)
      (in_faults s.inbox) (in_faults t.inbox) (out_faults s.outbox) (out_faults t.outbox)
  pub later : time s.clock ≤ time t.clock
  pub moments : AreGiven given s.engine → AreGiven given t.engine
  -- until a cause is noted each file that is to come has the bytes that it had
  pub bytes : t.cause ≡ None → (files : List NamedFile)
      → AreAsListed in_tells files (left s.inbox) (names_to_come s.engine)
      → AreAsListed in_tells files (left t.inbox) (names_to_come t.engine)

-- ---- a turn

-- what was due at this moment is tended, so that a session may be checked out
pub record IsTended {D I O C : Type 0} (moment_of : D → ℕ) (images : D → ℕ → Files → Type 0) (time : C → ℕ)
    (given : ℕ → Type 0) (moment : ℕ) (s : Seen D I O C) : Type 0 where
  pub none : s.cause ≡ None
  pub at : moment ≡ time s.clock
  pub is_given : given moment
  pub short : IsShortOn moment_of images s.engine.checkpoint s.disk
