use Rattle.serde_json.specs.View.{view}
use Rattle.flow_definition.specs.Patterns.{HasRisen, told_by_builder}
use Rattle.flow_definition.proofs.Verdicts.{answer_later, answer_untold}
use Rattle.flow_definition.proofs.made.make_kind.Goals as goal

pub returns-in-Some-UpdateAttribute-clause-made : goal.returns-in-Some-UpdateAttribute-clause-made
returns-in-Some-UpdateAttribute-clause-made g c =
    let faults = g.P.Patterns.faults c.args.patterns.now in
    answer_later (HasRisen faults faults) (view c.args.processor.now) c.make_updater.result c.make_updater.ensures

pub returns-in-Some-UpdateAttribute-clause-told : goal.returns-in-Some-UpdateAttribute-clause-told
returns-in-Some-UpdateAttribute-clause-told g c =
    answer_untold (told_by_builder g.P.Patterns.faults g.P.Patterns.refused c.args.patterns.now) (view c.args.processor.now) c.make_updater.result c.make_updater.ensures

pub returns-in-Some-RouteOnAttribute-clause-made : goal.returns-in-Some-RouteOnAttribute-clause-made
returns-in-Some-RouteOnAttribute-clause-made g c =
    let faults = g.P.Patterns.faults c.args.patterns.now in
    answer_later (HasRisen faults faults) (view c.args.processor.now) c.make_router.result c.make_router.ensures

pub returns-in-Some-RouteOnAttribute-clause-told : goal.returns-in-Some-RouteOnAttribute-clause-told
returns-in-Some-RouteOnAttribute-clause-told g c =
    answer_untold (told_by_builder g.P.Patterns.faults g.P.Patterns.refused c.args.patterns.now) (view c.args.processor.now) c.make_router.result c.make_router.ensures
