-- What the queues of a flow answer.
use Rattle.std.specs.Prelude.{◌≡◌, ℕ, ◌==◌, List, length, Option, Some, None, option_map, slice_get, if◌then◌else◌}
use Rattle.machine_model.specs.declared.flow.Connection.{Connection}
use Rattle.machine_model.specs.declared.flow.Flow.{Flow}
use Rattle.machine_model.specs.declared.flow.Processor.{Processor}
use Rattle.machine_model.specs.declared.kind.TakeRule.{TakeRule}
use Rattle.machine_model.specs.Due.{numbers_of, first_due}
use Rattle.machine_model.specs.Kinds.{take_rule_of}
use Rattle.machine_model.specs.Order.{eligible_files}
use Rattle.machine_model.specs.Taking.{picks}
use Rattle.machine_model.specs.View.{QueueView}
use Rattle.flow_queue.specs.Queue.{QueueState}

-- it has the order and the limits of its connection
pub record IsOf (connection : Connection) (queue : QueueState) : Type 0 where
  pub order : queue.order ≡ connection.order
  pub limits : queue.limits ≡ connection.limits

-- there is one for each connection of the flow
pub record AreOf (flow : Flow) (queues : List QueueState) : Type 0 where
  pub count : length queues ≡ length flow.connections
  pub each : (place : ℕ) (connection : Connection) (queue : QueueState)
      → slice_get flow.connections place ≡ Some connection → slice_get queues place ≡ Some queue
      → IsOf connection queue

-- the numbers of the files that a rule picks from a connection, if it ends at a processor
abbrev pub picked_from : TakeRule → (processor moment : ℕ) → Connection → QueueView → Option (List ℕ)
picked_from rule processor moment connection queue =
    if connection.target == processor
    then option_map numbers_of
    (picks rule (eligible_files connection.order connection.limits moment queue.active))
    else None

-- the first connection, by the flow's order, that ends at a processor and from which its rule picks, with what it picks
abbrev pub first_pick : Flow → (ℕ → QueueView) → ℕ → ℕ × Processor → Option (ℕ × List ℕ)
first_pick flow queues moment (place, processor) =
    first_due (picked_from (take_rule_of processor.kind) place moment) flow queues
