use Rattle.std.proofs.Common.{length}
use Rattle.proc_text.proofs.Cutting.{Cutting}
use Rattle.proc_text.proofs.pieces.pieces_of.Given as goal

abbrev pub invariant-loop-rest : goal.invariant-loop-rest
invariant-loop-rest l = Cutting l.cut l.content l.pieces.items l.rest

abbrev pub decreases-loop-rest : goal.decreases-loop-rest
decreases-loop-rest l = length l.rest
