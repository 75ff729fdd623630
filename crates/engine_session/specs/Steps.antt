-- The step of the machine that a session is, and the state that it leaves of what is kept.
use Rattle.std.specs.Prelude.{◌≡◌, ℕ, List, map, None, Some, slice_get}
use Rattle.flowfile_record.specs.Ranges.{HaveRanges}
use Rattle.flowfile_record.specs.Stored.{Kept}
use Rattle.flowfile_record.specs.declared.change.Settled.{Settled}
use Rattle.flowfile_record.specs.declared.content.ContentRef.{ContentRef}
use Rattle.flowfile_record.specs.declared.event.Event.{Event}
use Rattle.flowfile_record.specs.declared.worked.Outcome.{Outcome}
use Rattle.machine_model.specs.declared.flow.Flow.{Flow}
use Rattle.machine_model.specs.declared.flow.Processor.{Processor}
use Rattle.machine_model.specs.declared.given.Given.{Given}
use Rattle.machine_model.specs.declared.journal.Step.TheVariants.{Session}
use Rattle.machine_model.specs.Acting.{act}
use Rattle.machine_model.specs.Changing.{state_after}
use Rattle.machine_model.specs.Kinds.{take_rule_of}
use Rattle.machine_model.specs.Placing.{EndedSession}
use Rattle.machine_model.specs.State.{State, World, Machine}
use Rattle.machine_model.specs.Stepping.{as_taken, given_in, session_after, step, taken_files, world_after}
use Rattle.processor_api.specs.Acts.{KeepsGiven}
use Rattle.settlement.specs.Handed.{AreReadSources, ended_session}
use Rattle.settlement.specs.declared.handed.Ended.{Ended}
use Rattle.store_core.specs.State.{state_with}
use Rattle.engine_change.specs.Committing.{AreEventsUpTo, LeavesState}

abbrev pub machine_in : State → World → Machine
machine_in state world = record { state = state; world = world }

-- A session of the machine: its processor is the one at its place, it takes the files of these numbers, which it may
-- take at this moment, it is handed what it is given as that stands in the state and the world, and this is what it
-- makes of both.
pub record IsMachineSession (world : World) (numbers : List ℕ) (moment : ℕ) (given : Given) (session : EndedSession)
    (outcome : Outcome) : Type 0 where
  pub processor : slice_get session.flow.processors session.place ≡ Some session.processor
  pub no_bytes : given.bytes ≡ None
  pub taken : taken_files session.flow session.state session.place (take_rule_of session.processor.kind) numbers moment
      ≡ Some session.taken
  pub handed : given_in session.processor.kind session.place session.state world session.taken
      (record given { moment = moment }) ≡ Some session.given
  pub worked : act session.processor.kind (map (as_taken session.state) session.taken) session.given ≡ Some outcome

-- there is a step for it, which leaves the state that the session settles
abbrev pub SessionsAreSteps : Type 0
SessionsAreSteps =
    (world : World) (numbers : List ℕ) (moment : ℕ) (given : Given) (session : EndedSession) (outcome : Outcome)
    → IsMachineSession world numbers moment given session outcome
    → step session.flow (machine_in session.state world) (Session session.place numbers moment given)
    ≡ Some (session_after (machine_in session.state world) session outcome)

-- Where a settled session leaves the state that the machine does, the step leaves the state behind the settled session.
-- Whether the bytes that it was handed are still at hand as it settles is no matter.
abbrev pub SettledSessionsAreSteps : Type 0
SettledSessionsAreSteps =
    (flow : Flow) (world : World) (numbers : List ℕ) (moment : ℕ) (given handed left : Given) (ended : Ended)
    (processor : Processor) (contents : ContentRef → List ℕ) (events : List Event) (k : Kept) (settled : Settled)
    → IsMachineSession world numbers moment given
    (ended_session flow handed ended processor contents (state_with contents events k)) ended.outcome
    → KeepsGiven handed left
    → LeavesState flow left ended k settled
    → HaveRanges contents → AreReadSources contents ended.taken ended.sources → AreEventsUpTo k.last_event events
    → step flow (machine_in (state_with contents events k) world) (Session ended.processor numbers moment given)
    ≡ Some (record {
      state = state_after contents (state_with contents events k) settled;
      world = world_after processor.kind world
          (ended_session flow handed ended processor contents (state_with contents events k)) ended.outcome;
    })
