use Rattle.std.proofs.Common.{Ok, nat_eq, ap, sym, ◌∙◌}
use Rattle.std.specs.List.{starts_with}
use Rattle.std.proofs.lemmas.Str.Pattern.{starts_text}
use Rattle.expr_lang.specs.Value.{truth}
use Rattle.expr_lang.proofs.Places.{both}
use Rattle.expr_lang.proofs.evaluator.texts.starts_with.Goals as goal

pub returns : goal.returns
returns c =
    let answer = starts_text _ c.as_str-2.result.now c.as_str.result.now c.starts_with.ensures.cases in
    let same = both (starts_with nat_eq) (c.as_str.ensures.value ∙ c.in_ok-text.ensures) (c.as_str-2.ensures.value ∙ c.in_ok-start.ensures) in
    ap (λ b. Ok (truth b)) (sym (answer ∙ same))
