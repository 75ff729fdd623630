use Rattle.std.proofs.Common.{◌≡◌, drop, map}
use Rattle.std.specs.List.{flat_map}
use Rattle.process_session.specs.Finishing.{IsMarked, places_of, stand_at, with_each}
use Rattle.process_session.proofs.session.finish.standing.add_parents.Given as goal

abbrev pub invariant-loop-parent : goal.invariant-loop-parent
invariant-loop-parent l = record {
  marked : IsMarked l.met l.round l.left.items;
  left : with_each l.left.items (flat_map (stand_at (map places_of l.stands)) (drop l.parent-index l.parents)) ≡ with_each l.fn.left.items (flat_map (stand_at (map places_of l.stands)) l.parents);
}
