use Rattle.std.proofs.Common.{sym, ◌∙◌, rules, tests}
use Rattle.std.proofs.lemmas.Iterator.{YieldsList-from_slice}
use Rattle.std.proofs.lemmas.Iterator.Search.{any_from_yields_List}
use Rattle.serde_json.specs.View.{view}
use Rattle.flow_definition.proofs.Lists.{list_any-map}
use Rattle.flow_definition.specs.declared.field.Field.TheVariants.{Id}
use Rattle.flow_definition.specs.Looks.{has_text}
use Rattle.flow_definition.proofs.rules.ids.any_has_id.Goals as goal

pub returns : goal.returns
returns c =
    any_from_yields_List (λ x. has_text Id c.args.id.now (view x)) _ _ _ c.any.ensures.ran
    (YieldsList-from_slice c.args.items.now (cc)) (λ x b q k. search (rules, tests))
    ∙ sym (list_any-map (has_text Id c.args.id.now) (λ x. view x) c.args.items.now)
