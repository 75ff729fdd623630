use Rattle.std.proofs.Common.{true}
use Rattle.engine_queues.proofs.Moved.{AreMovedBelow}
use Rattle.engine_queues.proofs.listing.move_past.Given as goal

abbrev pub invariant-loop-source : goal.invariant-loop-source
invariant-loop-source l = AreMovedBelow true l.taken l.place l.source-index l.fn.sources l.sources
