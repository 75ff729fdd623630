use Rattle.std.proofs.Common.{sym, ◌∙◌, rules, tests}
use Rattle.std.proofs.lemmas.Iterator.{YieldsList-from_slice}
use Rattle.std.proofs.lemmas.Iterator.Search.{all_from_yields_List}
use Rattle.serde_json.specs.View.{view}
use Rattle.flow_definition.proofs.Lists.{list_all-map}
use Rattle.flow_definition.specs.Looks.{is_text}
use Rattle.flow_definition.proofs.look.are_texts.Goals as goal

pub returns : goal.returns
returns c =
    all_from_yields_List (λ item. is_text (view item)) _ _ _ c.all.ensures.ran
    (YieldsList-from_slice c.args.items.now (cc)) (λ x b q k. search (rules, tests))
    ∙ sym (list_all-map is_text view c.args.items.now)
