use Rattle.std.proofs.Common.{◌≡◌, ◌++◌, length, string_bytes}
use denote.Text.{Utf8}
use denote.Shadow.{shadow}
use Rattle.expr_lang.specs.Functions.{with_replaced}
use Rattle.expr_lang.proofs.evaluator.texts.with_replaced.Given as goal

abbrev pub invariant-loop-before : goal.invariant-loop-before
invariant-loop-before l = shadow (Utf8 l.rest)
    × (string_bytes l.replaced ++ with_replaced l.from l.to l.rest ≡ with_replaced l.from l.to l.text)

abbrev pub decreases-loop-before : goal.decreases-loop-before
decreases-loop-before l = length l.rest
