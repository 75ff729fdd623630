use Rattle.std.proofs.Common.{ap, ◌∙◌, bytes_eq, find, not}
use Rattle.serde_json.specs.View.{view}
use Rattle.flow_definition.specs.Rules.{is_bad_value}
use Rattle.flow_definition.specs.Types.{property_name}
use Rattle.flow_definition.proofs.rules.properties.is_bad_property.Goals as goal

pub returns-in-Some : goal.returns-in-Some
returns-in-Some c =
    let name = c.args.name.now in
    c.is_bad_value.ensures
    ∙ ap (is_bad_value (view c.args.processor.now) (name, view c.args.value.now))
    (c.in-Some.ensures ∙ ap (find (λ p. bytes_eq (property_name p) name)) c.properties_in.ensures)

pub returns-in-None : goal.returns-in-None
returns-in-None c =
    let name = c.args.name.now in
    ap not c.is_own_property.ensures
    ∙ ap (is_bad_value (view c.args.processor.now) (name, view c.args.value.now))
    (c.in-None.ensures ∙ ap (find (λ p. bytes_eq (property_name p) name)) c.properties_in.ensures)
