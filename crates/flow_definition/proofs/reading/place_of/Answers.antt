use Rattle.std.proofs.Common.{sym, ◌∙◌}
use Rattle.serde_json.specs.View.{view}
use Rattle.flow_definition.specs.declared.field.Field.TheVariants.{Id}
use Rattle.flow_definition.specs.Looks.{has_text}
use Rattle.flow_definition.proofs.Lists.{position-map}
use Rattle.flow_definition.proofs.reading.place_of.Goals as goal

pub returns : goal.returns
returns c = c.place_in.ensures ∙ sym (position-map (has_text Id c.args.id.now) view c.args.items.now)
