use Rattle.std.proofs.Common.{◌≡◌, map, take}
use Rattle.engine_queues.specs.Opening.{empty_queue}
use Rattle.engine_queues.proofs.opening.empty_queues.Given as goal

-- the queues of the connections so far
abbrev pub invariant-loop-connection : goal.invariant-loop-connection
invariant-loop-connection l = l.queues.items ≡ map empty_queue (take l.connection-index l.connections)
