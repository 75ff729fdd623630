use Rattle.std.proofs.Common.{◌≡◌, ◌++◌, length, string_bytes}
use denote.Text.{Utf8}
use denote.Shadow.{shadow}
use Rattle.expr_lang.specs.Functions.{with_replaced}
use Rattle.proc_text.proofs.replace_text.with_text_replaced.Given as goal

abbrev pub invariant-loop-before : goal.invariant-loop-before
invariant-loop-before l = shadow (Utf8 l.rest)
    × (string_bytes l.replaced ++ with_replaced l.search l.value l.rest ≡ with_replaced l.search l.value l.text)

abbrev pub decreases-loop-before : goal.decreases-loop-before
decreases-loop-before l = length l.rest
