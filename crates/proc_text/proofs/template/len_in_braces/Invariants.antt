use Rattle.std.proofs.Common.{ℕ, ◌<◌, not, get_or, ◌==◌, ◌≡◌, true}
use Rattle.proc_text.proofs.template.len_in_braces.Given as goal

abbrev pub invariant-loop-i : goal.invariant-loop-i
invariant-loop-i l =
    (k : ℕ) → k < l.i → not (get_or l.bytes k 0 == 125) ≡ true
