-- What the queues of a flow hold, and which they are.
use Rattle.std.specs.Prelude.{◌≡◌, ℕ, ◌==◌, List, [], map, filter, length, Some, slice_get}
use Rattle.std.specs.Option.{option_map_or}
use Rattle.flowfile_record.specs.Stored.{Kept}
use Rattle.flowfile_record.specs.declared.stored.ActiveFile.{ActiveFile}
use Rattle.machine_model.specs.declared.flow.Connection.{Connection}
use Rattle.machine_model.specs.declared.flow.Flow.{Flow}
use Rattle.machine_model.specs.View.{QueueView}
use Rattle.flow_queue.specs.Queue.{QueueState, queue_as_seen}
use Rattle.flow_queue.specs.declared.held.Held.{Held}
use Rattle.engine_queues.specs.Beside.{is_out}

-- the queue of the connection at a place, as it is seen
abbrev pub queue_seen : List QueueState → ℕ → QueueView
queue_seen queues place = option_map_or queue_as_seen (slice_get queues place) (record { active = []; batches = [] })

-- a live file, which is in flight where it is out
abbrev pub held_beside : (out : List ℕ) → ActiveFile → Held
held_beside out active = record { file = active.file; in_flight = is_out out active.file.number }

-- the live files of the connection at a place
abbrev pub held_of : (out : List ℕ) → Kept → ℕ → List Held
held_of out k place = map (held_beside out) (filter (λ active. active.connection == place) k.files)

-- it has the order and the limits of its connection, the live files of it, and no batch
pub record IsQueueOf (k : Kept) (out : List ℕ) (place : ℕ) (connection : Connection) (queue : QueueState) : Type 0
  where
    pub order : queue.order ≡ connection.order
    pub limits : queue.limits ≡ connection.limits
    pub files : queue.files ≡ held_of out k place
    pub batches : queue.batches ≡ []

-- there is one for each connection of the flow, and a live file is in flight exactly where it is out
pub record AreQueuesOf (flow : Flow) (k : Kept) (out : List ℕ) (queues : List QueueState) : Type 0 where
  pub count : length queues ≡ length flow.connections
  pub each : (place : ℕ) (connection : Connection) (queue : QueueState)
      → slice_get flow.connections place ≡ Some connection → slice_get queues place ≡ Some queue
      → IsQueueOf k out place connection queue
