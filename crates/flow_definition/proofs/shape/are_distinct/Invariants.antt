use Rattle.std.proofs.Common.{◌≡◌, drop, map}
use Rattle.serde_json.specs.View.{view}
use Rattle.machine_model.specs.Sound.{are_distinct_texts}
use Rattle.flow_definition.specs.Looks.{text_or_empty}
use Rattle.flow_definition.proofs.shape.are_distinct.Given as goal

abbrev pub invariant-names : goal.invariant-names
invariant-names l =
    are_distinct_texts (map text_or_empty (map view l.names)) ≡ are_distinct_texts (map text_or_empty (map view (drop l.k l.names)))
