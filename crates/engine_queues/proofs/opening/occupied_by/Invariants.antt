use Rattle.std.proofs.Common.{◌≡◌, map, take}
use Rattle.engine_queues.specs.Waiting.{has_files}
use Rattle.engine_queues.proofs.opening.occupied_by.Given as goal

-- the marks of the queues so far
abbrev pub invariant-loop-queue : goal.invariant-loop-queue
invariant-loop-queue l = l.occupied.items ≡ map has_files (take l.queue-index l.queues)
