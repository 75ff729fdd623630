use Rattle.std.proofs.Common.{◌≡◌, [], map, take, drop}
use Rattle.serde_json.specs.View.{view}
use Rattle.flow_definition.specs.Walk.{first_broken_in, in_level}
use Rattle.flow_definition.proofs.walk.first_in.Given as goal

abbrev pub invariant-items : goal.invariant-items
invariant-items l =
    first_broken_in (in_level l.level l.rule (view l.top)) l.list [] (map view l.items)
    ≡ first_broken_in (in_level l.level l.rule (view l.top)) l.list (map view (take l.place l.items)) (map view (drop l.place l.items))
