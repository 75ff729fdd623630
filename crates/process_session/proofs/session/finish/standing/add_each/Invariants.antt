use Rattle.std.proofs.Common.{◌≡◌, drop}
use Rattle.process_session.specs.Finishing.{IsMarked, with_each}
use Rattle.process_session.proofs.session.finish.standing.add_each.Given as goal

abbrev pub invariant-loop-place : goal.invariant-loop-place
invariant-loop-place l = record {
  marked : IsMarked l.met l.round l.left.items;
  left : with_each l.left.items (drop l.place-index l.places) ≡ with_each l.fn.left.items l.places;
}
