-- How a session ends that isn't committed.
use Rattle.std.specs.Prelude.{◌≡◌, ℕ, true, false, filter, map, List, None}
use Rattle.flowfile_record.specs.Stored.{Kept}
use Rattle.machine_model.specs.declared.flow.Flow.{Flow}
use Rattle.flow_queue.specs.Queue.{QueueState}
use Rattle.engine_queues.specs.Queues.{AreQueuesOf}
use Rattle.engine_queues.specs.Settling.{MayGiveBack, without_flights}
use Rattle.engine_choice.specs.declared.choice.Taking.{Taking}
use Rattle.engine_choice.specs.declared.choice.Taking.TheVariants.{Files}
use Rattle.engine_steps.specs.Engine.{EngineState}
use Rattle.engine_steps.specs.Flights.{given_back, has_session, is_in_flight, names_to_come, without_session}

-- the files that a session took may be given back, if it took any
abbrev pub MayGiveFilesBack : Flow → Kept → (out : List ℕ) → Taking → List QueueState → Type 0
MayGiveFilesBack flow k out (Files connection numbers) queues = MayGiveBack flow k out connection numbers queues
MayGiveFilesBack flow k out _ queues = AreQueuesOf flow k out queues

-- What the session took was given back: its files are at rest in their queue, its name is left. Of the engine nothing
-- else changes, but that it knows no moment at which nothing is due.
pub record SessionHasEnded (session : ℕ) (old new : EngineState) : Type 0 where
  pub rest : new ≡ record old {
    queues = new.queues;
    listing = given_back (filter (has_session session) old.out) old.listing;
    tended = None;
    out = without_session session old.out;
  }
  pub queues : map without_flights new.queues ≡ map without_flights old.queues
  pub coming : names_to_come new ≡ names_to_come old

-- A session in flight has ended, or was dropped where the store must be opened anew; another one changes nothing.
pub record EndsSession (session : ℕ) (old new : EngineState) : Type 0 where
  pub unknown : is_in_flight session old.out ≡ false → new ≡ old
  pub ended : is_in_flight session old.out ≡ true → old.failed ≡ false → SessionHasEnded session old new
  pub dropped : old.failed ≡ true → new ≡ record old { out = without_session session old.out }
