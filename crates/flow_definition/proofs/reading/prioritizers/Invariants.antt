use Rattle.std.proofs.Common.{◌≡◌, map, take}
use Rattle.std.specs.List.{filter_map}
use Rattle.serde_json.specs.View.{view}
use Rattle.flow_definition.specs.Looks.{text_or_empty}
use Rattle.flow_definition.specs.Shapes.{prioritizer_named}
use Rattle.flow_definition.proofs.reading.prioritizers.Given as goal

abbrev pub invariant-names : goal.invariant-names
invariant-names l = l.list.items ≡ filter_map prioritizer_named (map text_or_empty (map view (take l.name-index l.names)))
