-- What an engine has in memory.
use Rattle.std.specs.Prelude.{◌≡◌, ℕ, ◌≤◌, Bool, List, Option, All, length}
use Rattle.std.specs.Option.{IsSomeAnd}
use Rattle.flowfile_record.specs.NamedFile.{NamedFile, bytes_of}
use Rattle.flowfile_record.specs.declared.TheConstants.{CONTENT_MAX}
use Rattle.machine_model.specs.declared.flow.Flow.{Flow}
use Rattle.machine_model.specs.declared.journal.Entry.{Entry}
use Rattle.flow_queue.specs.Queue.{QueueState}
use Rattle.store_core.specs.Store.{StoreState, kept_by}
use Rattle.engine_queues.specs.Listing.{Left}
use Rattle.engine_steps.specs.declared.flight.InFlight.{InFlight}

-- The flow that it runs; the store and the queues of what it keeps; the names of the inbox, and which are taken; the
-- processor that got the last session; the journal, and how many entries it may have; with how many entries in its log
-- the store makes a checkpoint; how many entries came since claims were last reclaimed; whether the disk has failed, or a
-- put into the outbox, so that the store must be opened anew; a moment at which nothing was due, where nothing was done
-- since; the sessions in flight, and the number of the next one.
pub record EngineState : Type 0 where
  pub flow : Flow
  pub store : StoreState
  pub queues : List QueueState
  pub listing : Left
  pub last : Option ℕ
  pub journal : List Entry
  pub most : ℕ
  pub checkpoint : ℕ
  pub since_reclaim : ℕ
  pub failed : Bool
  pub tended : Option ℕ
  pub out : List InFlight
  pub next_session : ℕ

-- the files of these names are left, and none is longer than a content may be
abbrev pub AreTakeable : List NamedFile → List (List ℕ) → Type 0
AreTakeable left names =
    All (λ name. IsSomeAnd (bytes_of left name) (λ bytes. length bytes ≤ CONTENT_MAX)) names

-- the run's constants stay: the flow, the journal's limit, how long a log may get, how many names of the inbox have files
-- that are too large, and the store's lot and id
pub record IsOfSameRun (old new : EngineState) : Type 0 where
  pub flow : new.flow ≡ old.flow
  pub most : new.most ≡ old.most
  pub checkpoint : new.checkpoint ≡ old.checkpoint
  pub too_large : new.listing.too_large ≡ old.listing.too_large
  pub lot : new.store.lot ≡ old.store.lot
  pub id : (kept_by new.store).store ≡ (kept_by old.store).store
