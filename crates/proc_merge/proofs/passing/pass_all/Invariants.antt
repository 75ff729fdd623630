use Rattle.std.proofs.Common.{◌≡◌}
use Rattle.proc_merge.proofs.Passed.{with_passed}
use Rattle.proc_merge.proofs.passing.pass_all.Given as goal

abbrev pub invariant-loop-place : goal.invariant-loop-place
invariant-loop-place l = l.session ≡ with_passed l.fn.session l.place l.relationship
