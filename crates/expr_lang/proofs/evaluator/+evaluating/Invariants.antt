use Rattle.std.proofs.Common.{◌≡◌, Ok, map, take}
use Rattle.std.specs.List.{fold}
use Rattle.expr_lang.specs.declared.syntax.Call.TheViews.{out-Embedded}
use Rattle.expr_lang.specs.Meaning.{term_value}
use Rattle.expr_lang.specs.Seen.{seen}
use Rattle.expr_lang.specs.View.{operand_term, call_term}
use Rattle.expr_lang.proofs.evaluator.+evaluating.Given as goal

-- the calls so far make this value of the subject's
abbrev pub invariant-embedded_value-loop-call : goal.invariant-embedded_value-loop-call
invariant-embedded_value-loop-call g l =
    term_value (g.S.Subject.attributes l.subject)
    (fold (λ t call. call t) (operand_term (out-Embedded l.embedded).subject) (map call_term (take l.call-index (out-Embedded l.embedded).calls.items)))
    ≡ Ok (seen l.value)
