use Rattle.std.proofs.Common.{sym, ◌∙◌, rules, tests, bytes_eq}
use Rattle.std.proofs.lemmas.Iterator.{YieldsList-from_slice}
use Rattle.std.proofs.lemmas.Iterator.Search.{any_from_yields_List}
use Rattle.serde_json.specs.View.{view}
use Rattle.flow_definition.specs.Looks.{text_or_empty}
use Rattle.flow_definition.proofs.Lists.{list_any-map}
use Rattle.flow_definition.proofs.look.is_among.Goals as goal

pub returns : goal.returns
returns c =
    let name = c.args.name.now in
    any_from_yields_List (λ other. bytes_eq name (text_or_empty (view other))) _ _ _ c.any.ensures.ran
    (YieldsList-from_slice c.args.names.now (cc)) (λ x b q k. search (rules, tests))
    ∙ sym (list_any-map (bytes_eq name) text_or_empty _ ∙ list_any-map (λ d. bytes_eq name (text_or_empty d)) view c.args.names.now)
