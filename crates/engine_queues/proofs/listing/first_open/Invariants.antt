use Rattle.std.proofs.Common.{ℕ, ◌<◌, ◌≤◌}
use Rattle.engine_queues.specs.ListingInside.{IsOpen}
use Rattle.engine_queues.proofs.listing.first_open.Given as goal

abbrev pub invariant-loop-place : goal.invariant-loop-place
invariant-loop-place l = (k : ℕ) → l.start ≤ k → k < l.place → IsOpen l.taken l.passing k → ⊥
