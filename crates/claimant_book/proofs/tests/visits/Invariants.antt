use Rattle.std.proofs.Common.{◌≤◌}
use Rattle.claimant_book.specs.Views.{seen_by, HoldsNothing}
use Rattle.claimant_book.proofs.tests.visits.Given as goal

abbrev pub invariant-loop : goal.invariant-loop
invariant-loop g l = (1 ≤ seen_by l.share 0) × HoldsNothing l.share
