use Rattle.std.proofs.Common.{sym, ◌∙◌, rules, tests, map}
use Rattle.std.proofs.lemmas.Iterator.{YieldsList-from_slice}
use Rattle.std.proofs.lemmas.Iterator.Search.{all_from_yields_List}
use Rattle.serde_json.specs.View.{view}
use Rattle.flow_definition.specs.Looks.{text_or_empty}
use Rattle.flow_definition.specs.Shapes.{is_prioritizer}
use Rattle.flow_definition.proofs.Lists.{list_all-map}
use Rattle.flow_definition.proofs.shape.are_all_prioritizers.Goals as goal

pub returns : goal.returns
returns c =
    all_from_yields_List (λ name. is_prioritizer (text_or_empty (view name))) _ _ _ c.all.ensures.ran
    (YieldsList-from_slice c.args.names.now (cc)) (λ x b q k. search (rules, tests))
    ∙ sym (list_all-map is_prioritizer text_or_empty (map view c.args.names.now) ∙ list_all-map (λ d. is_prioritizer (text_or_empty d)) view c.args.names.now)
