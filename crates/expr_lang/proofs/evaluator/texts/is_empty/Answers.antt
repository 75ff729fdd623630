use Rattle.std.proofs.Common.{Ok, ap, sym, ◌∙◌, rules, tests}
use Rattle.std.proofs.lemmas.Iterator.{YieldsList-from_chars}
use Rattle.std.proofs.lemmas.Iterator.Search.{all_from_yields_List}
use Rattle.std.specs.List.{list_all}
use Rattle.expr_lang.specs.Bytes.{is_space}
use Rattle.expr_lang.specs.Value.{truth}
use Rattle.expr_lang.proofs.AllChars.{all_chars, is_space-IsLow}
use Rattle.expr_lang.proofs.evaluator.texts.is_empty.Goals as goal

pub returns : goal.returns
returns c =
    let answer = all_from_yields_List is_space _ _ c.all.result c.all.ensures.ran (YieldsList-from_chars c.as_str.result.now c.as_str.utf8 c.chars.ensures.rest) (λ x b q k. search (rules, tests)) in
    let by_byte = all_chars is_space is_space-IsLow c.as_str.result.now c.as_str.utf8 in
    let same = c.as_str.ensures.value ∙ c.in_ok-text.ensures in
    ap (λ b. Ok (truth b)) (ap (list_all is_space) (sym same) ∙ sym by_byte ∙ sym answer)
