use Rattle.std.proofs.Common.{◌≡◌, map, take}
use Rattle.serde_json.specs.View.{view}
use Rattle.flow_definition.specs.Looks.{text_or_empty}
use Rattle.flow_definition.proofs.reading.copied.Given as goal

abbrev pub invariant-names : goal.invariant-names
invariant-names l = l.texts.items ≡ map text_or_empty (map view (take l.name-index l.names))
