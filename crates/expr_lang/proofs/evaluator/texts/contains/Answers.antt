use Rattle.std.proofs.Common.{Ok, ap, sym, ◌∙◌}
use Rattle.std.specs.Option.{is_some}
use Rattle.expr_lang.specs.Functions.{first_place}
use Rattle.expr_lang.specs.Value.{truth}
use Rattle.expr_lang.proofs.Places.{both, contains_place}
use Rattle.expr_lang.proofs.evaluator.texts.contains.Goals as goal

pub returns : goal.returns
returns c =
    let answer = contains_place _ c.as_str-2.result.now c.as_str.result.now c.contains.ensures.cases in
    let same = both (λ x s. is_some (first_place x s)) (c.as_str-2.ensures.value ∙ c.in_ok-part.ensures) (c.as_str.ensures.value ∙ c.in_ok-text.ensures) in
    ap (λ b. Ok (truth b)) (sym same ∙ answer)
