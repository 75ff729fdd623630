use Rattle.std.proofs.Common.{Ok, nat_eq, ap, sym, ◌∙◌}
use Rattle.std.specs.List.{ends_with}
use Rattle.std.proofs.lemmas.Str.Pattern.{ends_text}
use Rattle.expr_lang.specs.Value.{truth}
use Rattle.expr_lang.proofs.Places.{both}
use Rattle.expr_lang.proofs.evaluator.texts.ends_with.Goals as goal

pub returns : goal.returns
returns c =
    let answer = ends_text _ c.as_str-2.result.now c.as_str.result.now c.ends_with.ensures.cases in
    let same = both (ends_with nat_eq) (c.as_str.ensures.value ∙ c.in_ok-text.ensures) (c.as_str-2.ensures.value ∙ c.in_ok-end.ensures) in
    ap (λ b. Ok (truth b)) (sym (answer ∙ same))
