use Rattle.std.proofs.Common.{◌≡◌, ℕ, ◌<◌}
use Rattle.std.specs.Prelude.{Some, slice_get}
use Rattle.machine_model.specs.RouteOnAttribute.{places_where}
use Rattle.engine_queues.specs.Linked.{starts_at}
use Rattle.engine_queues.proofs.Walked.{HasRoom}
use Rattle.engine_queues.proofs.queues.Queues.is_held_back.Given as goal

-- none of the connections that were walked so far is full
abbrev pub invariant-loop-place : goal.invariant-loop-place
invariant-loop-place l =
    (k place : ℕ) → k < l.place-index → slice_get (places_where (starts_at l.processor) l.flow.connections) k ≡ Some place
    → HasRoom l.self place
