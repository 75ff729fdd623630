use Rattle.std.proofs.Common.{◌≡◌, ℕ, ◌<◌}
use Rattle.std.specs.Prelude.{Some, slice_get}
use Rattle.machine_model.specs.RouteOnAttribute.{places_where}
use Rattle.engine_queues.specs.Linked.{ends_at}
use Rattle.engine_queues.specs.Picking.{picked_from}
use Rattle.engine_queues.proofs.Due.{OwesNothing}
use Rattle.engine_queues.proofs.queues.Queues.pick_by.Given as goal

-- the rule picks from none of the connections that were walked so far
abbrev pub invariant-loop-place : goal.invariant-loop-place
invariant-loop-place l =
    (k place : ℕ) → k < l.place-index → slice_get (places_where (ends_at l.processor) l.flow.connections) k ≡ Some place
    → OwesNothing (picked_from l.rule l.processor l.moment) l.flow l.self place
