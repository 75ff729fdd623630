use Rattle.std.proofs.Common.{Ok, ap, sym, ◌∙◌}
use Rattle.expr_lang.specs.Functions.{behind}
use Rattle.expr_lang.specs.Value.{text}
use Rattle.expr_lang.proofs.Places.{both, behind_none, behind_split}
use Rattle.expr_lang.proofs.evaluator.texts.substring_after.Goals as goal

pub returns-in-None : goal.returns-in-None
returns-in-None c =
    let same = both behind (c.as_str-2.ensures.value ∙ c.in_ok-mark.ensures) (c.as_str.ensures.value ∙ c.in_ok-text.ensures) in
    let answer = behind_none c.as_str-2.result.now c.as_str.result.now c.in-None.ensures.cases in
    ap (λ b. Ok (text b)) (sym same ∙ answer ∙ c.as_str.ensures.value)

pub returns : goal.returns
returns c =
    let same = both behind (c.as_str-2.ensures.value ∙ c.in_ok-mark.ensures) (c.as_str.ensures.value ∙ c.in_ok-text.ensures) in
    let answer = behind_split c.as_str-2.result.now c.as_str.result.now _ _ c.in-Some.ensures.cases in
    ap (λ b. Ok (text b)) (sym same ∙ answer ∙ sym c.in_ok-after-in-Some.ensures.ok)
