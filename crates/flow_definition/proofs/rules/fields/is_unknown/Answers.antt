use Rattle.std.proofs.Common.{Bool, ap, ◌∙◌, not, rules, tests, bytes_eq}
use Rattle.std.specs.List.{list_any}
use Rattle.std.proofs.lemmas.Iterator.{YieldsList-from_slice}
use Rattle.std.proofs.lemmas.Iterator.Search.{any_from_yields_List}
use Rattle.flow_definition.specs.Fields.{field_name}
use Rattle.flow_definition.specs.declared.field.Field.{Field}
use Rattle.flow_definition.proofs.rules.fields.is_unknown.Goals as goal

pub returns : goal.returns
returns c =
    let test : Field → Bool = λ f. bytes_eq (field_name f) c.args.name.now in
    ap not
    (any_from_yields_List test _ _ _ c.any.ensures.ran
    (YieldsList-from_slice c.fields.result.now (cc)) (λ x b q k. search (rules, tests))
    ∙ ap (list_any test) c.fields.ensures)
