-- What an engine in memory shows of the machine.
use Rattle.std.specs.Prelude.{◌≡◌}
use Rattle.machine_model.specs.Files.{queues_of}
use Rattle.machine_model.specs.State.{Machine}
use Rattle.engine_queues.specs.Beside.{beside}
use Rattle.engine_queues.specs.Laws.{SeesTheSame}
use Rattle.engine_queues.specs.Queues.{queue_seen}
use Rattle.store_core.specs.Store.{kept_by}
use Rattle.engine_steps.specs.Engine.{EngineState}
use Rattle.engine_steps.specs.Flights.{taken_by}

-- The engine shows this machine's state: its queues are seen as the machine's are beside the sessions in flight, and it
-- knows how many files each generator has made.
pub record EngineShowsState (e : EngineState) (m : Machine) : Type 0 where
  pub seen : SeesTheSame e.flow (queue_seen e.queues) (beside (taken_by e.out) (queues_of m.state))
  pub counts : (kept_by e.store).counts ≡ m.state.counts
