use Rattle.std.proofs.Common.{ap, ◌∙◌, rules, tests, find, option_map}
use Rattle.std.proofs.lemmas.Iterator.{YieldsList-from_slice}
use Rattle.std.proofs.lemmas.Iterator.Search.{find_from_yields_List}
use Rattle.serde_json.specs.View.{view}
use Rattle.serde_json.proofs.Views.{view_of_ref}
use Rattle.flow_definition.specs.declared.field.Field.TheVariants.{Id}
use Rattle.flow_definition.specs.Looks.{has_text}
use Rattle.flow_definition.proofs.Lists.{find-map}
use Rattle.flow_definition.proofs.look.processor_named.Goals as goal

pub returns : goal.returns
returns c =
    let test = has_text Id c.args.id.now in
    view_of_ref c.find.result
    ∙ ap (option_map view) (find_from_yields_List (λ processor. test (view processor)) _ _ _ c.find.ensures.ran
    (YieldsList-from_slice c.items_at.result.now (cc)) (λ x b q k. search (rules, tests)))
    ∙ find-map test view c.items_at.result.now
    ∙ ap (find test) c.items_at.ensures
