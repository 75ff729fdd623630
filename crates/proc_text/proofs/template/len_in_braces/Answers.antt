use Rattle.std.proofs.Common.{sym, not, ◌==◌, arith, length}
use Rattle.std.proofs.lemmas.Bool.Decides.{nat_tests}
use Rattle.std.proofs.lemmas.Grind.{common_steps}
use Rattle.std.proofs.lemmas.List.Sums.{prefix_len_is}
use Rattle.proc_text.proofs.template.len_in_braces.Goals as goal

pub returns-then-bytes-i-eq125 : goal.returns-then-bytes-i-eq125
returns-then-bytes-i-eq125 c =
    sym (prefix_len_is (λ b. not (b == 125)) c.args.bytes.now c.loop-i.i 0 (omega arith) (λ k lt. c.loop-i.invariant k (omega arith)) (λ _. grind (arith, nat_tests, common_steps)))

pub returns : goal.returns
returns c =
    sym (prefix_len_is (λ b. not (b == 125)) c.args.bytes.now (length c.args.bytes.now) 0 (omega arith) (λ k lt. c.loop-i.invariant k (omega arith)) (λ lt. absurd (omega arith)))
