use Rattle.std.proofs.Common.{[], position, unwrap_or, ap, ◌∙◌, Option, List, ℕ}
use Rattle.serde_json.specs.View.{view}
use Rattle.flow_definition.specs.declared.field.Field.TheVariants.{Id, Processors}
use Rattle.flow_definition.specs.Looks.{has_text, list_items_at}
use Rattle.flow_definition.specs.Reading.{place_below}
use Rattle.flow_definition.proofs.reading.place_at.Goals as goal

pub returns-in-None : goal.returns-in-None
returns-in-None c =
    let place : Option (List ℕ) → ℕ =
    λ text. place_below (position (has_text Id (unwrap_or text [])) (list_items_at Processors (view c.args.top.now))) in
    c.place_named-in-None.ensures ∙ ap place c.in-None.ensures
