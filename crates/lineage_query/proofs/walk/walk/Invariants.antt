use Rattle.std.proofs.Common.{◌+◌, ◌-◌, ◌≤◌, ◌∷◌, length, take}
use Rattle.std.specs.List.{flat_map}
use Rattle.lineage_query.specs.Work.{work}
use Rattle.lineage_query.proofs.Walking.{IsWalk, targets}
use Rattle.lineage_query.proofs.walk.walk.Given as goal

abbrev pub invariant-loop-next : goal.invariant-loop-next
invariant-loop-next g l = record {
  walk : IsWalk l.way l.index l.file l.place l.found;
  steps : l.steps ≤ l.fn.steps + work l.index (l.file ∷ take l.place l.found);
}

abbrev pub decreases-loop-next : goal.decreases-loop-next
decreases-loop-next g l = length (flat_map (targets l.way) l.index) - l.place
