use Rattle.std.proofs.Common.{sym, ◌∙◌, rules, tests}
use Rattle.std.proofs.lemmas.Iterator.{YieldsList-from_slice}
use Rattle.std.proofs.lemmas.Iterator.Search.{any_from_yields_List}
use Rattle.serde_json.specs.View.{view}
use Rattle.flow_definition.proofs.Lists.{list_any-map}
use Rattle.flow_definition.specs.Rules.{is_crowded}
use Rattle.flow_definition.proofs.rules.limits.any_crowded.Goals as goal

pub returns : goal.returns
returns c =
    any_from_yields_List (λ x. is_crowded (view c.args.top.now) (view c.args.processor.now) (x.now)) _ _ _ c.any.ensures.ran
    (YieldsList-from_slice c.args.names.now (cc)) (λ x b q k. search (rules, tests))
    ∙ sym (list_any-map (is_crowded (view c.args.top.now) (view c.args.processor.now)) (λ x. x.now) c.args.names.now)
