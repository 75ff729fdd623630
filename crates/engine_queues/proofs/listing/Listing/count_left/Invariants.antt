use Rattle.std.proofs.Common.{◌≡◌, ◌+◌, drop, length}
use Rattle.engine_queues.proofs.Left.{free}
use Rattle.engine_queues.proofs.listing.Listing.count_left.Given as goal

abbrev pub invariant-loop-is_taken : goal.invariant-loop-is_taken
invariant-loop-is_taken l = l.count + length (free (drop l.is_taken-index l.is_taken-items)) ≡ l.initial.count + length (free l.is_taken-items)
