use Rattle.std.proofs.Common.{◌≡◌, [], map, take, drop}
use Rattle.serde_json.specs.View.{view}
use Rattle.flow_definition.specs.Looks.{text_or_empty, relationships_in}
use Rattle.flow_definition.specs.Rules.{wrong_name}
use Rattle.flow_definition.proofs.rules.connected.wrong_name.Given as goal

abbrev pub invariant-names : goal.invariant-names
invariant-names l =
    wrong_name (relationships_in (view l.processor)) [] (map text_or_empty (map view l.names))
    ≡ wrong_name (relationships_in (view l.processor)) (map text_or_empty (map view (take l.place l.names)))
    (map text_or_empty (map view (drop l.place l.names)))
