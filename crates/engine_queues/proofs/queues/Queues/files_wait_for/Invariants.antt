use Rattle.engine_queues.proofs.Waiting.{AreWaitsSoFar}
use Rattle.engine_queues.proofs.queues.Queues.files_wait_for.Given as goal

abbrev pub invariant-loop-place : goal.invariant-loop-place
invariant-loop-place l = AreWaitsSoFar l.flow l.self l.place l.waits.items
