use Rattle.std.proofs.Common.{sym, ◌∙◌, rules, tests}
use Rattle.std.proofs.lemmas.Iterator.{YieldsList-from_slice}
use Rattle.std.proofs.lemmas.Iterator.Search.{any_from_yields_List}
use Rattle.serde_json.specs.View.{view}
use Rattle.flow_definition.proofs.Lists.{list_any-map}
use Rattle.flow_definition.specs.Rules.{connection_carries}
use Rattle.flow_definition.proofs.rules.connected.any_carries.Goals as goal

pub returns : goal.returns
returns c =
    any_from_yields_List (λ x. connection_carries (view c.args.processor.now) c.args.name.now (view x)) _ _ _ c.any.ensures.ran
    (YieldsList-from_slice c.args.connections.now (cc)) (λ x b q k. search (rules, tests))
    ∙ sym (list_any-map (connection_carries (view c.args.processor.now) c.args.name.now) (λ x. view x) c.args.connections.now)
