-- The paths of places, and how they are written.
use Rattle.std.specs.Prelude.{ℕ, [], Option, Some, None}
use Rattle.flow_definition.specs.declared.field.Field.{Field}
use Rattle.flow_definition.specs.declared.place.Part.{Part}
use Rattle.flow_definition.specs.declared.place.Part.TheVariants as part
use Rattle.flow_definition.specs.declared.place.Broken.{Broken}
use Rattle.flow_definition.specs.declared.place.Place.{Place}
use Rattle.flow_definition.specs.declared.rule.Rule.{Rule}
use Rattle.flow_definition.specs.Rules.{Path, in_field, in_item, in_property, in_unknown}
use Rattle.flow_definition.specs.Walk.{in_list_item}

abbrev pub part_path : Part → Path
part_path part.Whole = []
part_path (part.Field f) = in_field f
part_path (part.Item f place) = in_item f place
part_path (part.Property name) = in_property name.now
part_path (part.Unknown name) = in_unknown name.now

abbrev pub item_path : Option (Field × ℕ) → Path → Path
item_path None path = path
item_path (Some (f, place)) path = in_list_item f place path

abbrev pub place_path : Place → Path
place_path place = item_path place.item (part_path place.part)

abbrev pub broken_path : Broken → Rule × Path
broken_path broken = (broken.rule, place_path broken.place)
