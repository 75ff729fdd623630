-- Which queues of a flow have files, and for which processors files wait.
use Rattle.std.specs.Prelude.{◌≡◌, ℕ, ◌==◌, ◌&&◌, nat_lt, Bool, List, Some, length, slice_get}
use Rattle.std.specs.List.{list_any, enumerate_from}
use Rattle.machine_model.specs.declared.flow.Connection.{Connection}
use Rattle.machine_model.specs.declared.flow.Flow.{Flow}
use Rattle.machine_model.specs.View.{QueueView}
use Rattle.flow_queue.specs.Queue.{QueueState}

-- the queue has files, in flight or not
abbrev pub has_files : QueueState → Bool
has_files queue = nat_lt 0 (length queue.files)

-- the connection ends at a processor and has files
abbrev pub brings_files : (queues : ℕ → QueueView) → (processor : ℕ) → ℕ × Connection → Bool
brings_files queues processor (place, connection) =
    (connection.target == processor) && nat_lt 0 (length (queues place).active)

-- some connection does
abbrev pub files_wait_for : Flow → (queues : ℕ → QueueView) → (processor : ℕ) → Bool
files_wait_for flow queues processor =
    list_any (brings_files queues processor) (enumerate_from 0 flow.connections)

-- a mark for each processor of the flow: whether files wait for it
pub record AreWaits (flow : Flow) (queues : ℕ → QueueView) (waits : List Bool) : Type 0 where
  pub count : length waits ≡ length flow.processors
  pub each : (processor : ℕ) (waiting : Bool) → slice_get waits processor ≡ Some waiting
      → waiting ≡ files_wait_for flow queues processor
