-- That the state behind a settlement is the machine's, where references stand for these bytes.
use Rattle.std.specs.Prelude.{◌≡◌, ℕ, List}
use Rattle.flowfile_record.specs.Ranges.{HaveRanges}
use Rattle.flowfile_record.specs.declared.change.Settled.{Settled}
use Rattle.flowfile_record.specs.declared.content.ContentRef.{ContentRef}
use Rattle.machine_model.specs.declared.flow.Flow.{Flow}
use Rattle.machine_model.specs.declared.flow.Processor.{Processor}
use Rattle.machine_model.specs.declared.given.Given.{Given}
use Rattle.machine_model.specs.Changing.{state_after}
use Rattle.machine_model.specs.Settling.{settle}
use Rattle.machine_model.specs.State.{State}
use Rattle.settlement.specs.Handed.{AreReadSources, SessionIsHanded, ended_session}
use Rattle.settlement.specs.declared.counters.Counters.{Counters}
use Rattle.settlement.specs.declared.handed.Ended.{Ended}

-- A state is the wanted one: its queues if references to ranges of contents stand for ranges of their bytes, what is told
-- if what was read are the bytes of the taken files, and all else whatever references stand for.
pub record LeavesAs (ended : Ended) (bytes : ContentRef → List ℕ) (after wanted : State) : Type 0 where
  pub queues : HaveRanges bytes → after.queues ≡ wanted.queues
  pub events : AreReadSources bytes ended.taken ended.sources → after.events ≡ wanted.events
  pub kin : AreReadSources bytes ended.taken ended.sources → after.kin ≡ wanted.kin
  pub last_event : AreReadSources bytes ended.taken ended.sources → after.last_event ≡ wanted.last_event
  pub rest : record after {
    queues = wanted.queues;
    events = wanted.events;
    kin = wanted.kin;
    last_event = wanted.last_event;
  } ≡ wanted

-- in each state in which the session may have ended, the settlement leaves what the machine's does
abbrev pub Settles : Flow → Given → Counters → Ended → Settled → Type 0
Settles flow given counters ended settled =
    (processor : Processor) (bytes : ContentRef → List ℕ) (state : State) →
    SessionIsHanded flow counters ended processor bytes state →
    LeavesAs ended bytes (state_after bytes state settled)
    (settle (ended_session flow given ended processor bytes state) ended.outcome)
