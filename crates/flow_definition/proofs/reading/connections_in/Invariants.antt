use Rattle.std.proofs.Common.{◌≡◌, map, take}
use Rattle.serde_json.specs.View.{view}
use Rattle.flow_definition.specs.Reading.{connection_of}
use Rattle.flow_definition.proofs.reading.connections_in.Given as goal

abbrev pub invariant-items : goal.invariant-items
invariant-items l = l.list.items ≡ map (connection_of (view l.top)) (map view (take l.item-index l.items))
