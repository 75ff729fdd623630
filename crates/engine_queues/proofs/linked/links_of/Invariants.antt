use Rattle.std.proofs.Common.{◌≡◌, take}
use Rattle.machine_model.specs.RouteOnAttribute.{places_where}
use Rattle.engine_queues.specs.Linked.{ends_at, starts_at}
use Rattle.engine_queues.proofs.linked.links_of.Given as goal

-- the places of the connections so far
abbrev pub invariant-loop-place : goal.invariant-loop-place
invariant-loop-place l = record {
  incoming : l.incoming.items ≡ places_where (ends_at l.processor) (take l.place l.connections);
  outgoing : l.outgoing.items ≡ places_where (starts_at l.processor) (take l.place l.connections);
}
