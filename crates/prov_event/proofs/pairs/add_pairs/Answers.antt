use Rattle.std.proofs.Common.{refl, arith}
use Rattle.std.proofs.lemmas.List.{append-nil}
use Rattle.prov_event.proofs.Sizes.{pairs_size}
use Rattle.prov_event.proofs.pairs.add_pairs.Goals as goal

pub loop-child-init : goal.loop-child-init
loop-child-init c = record {
  items = rw (c.reserve.ensures.items, append-nil) refl;
  len = omega (arith, c.reserve.ensures.len);
  room = omega (arith, pairs_size c.args.parents.now c.args.children.now, c.saturating_mul.ensures, c.in_ok-reserve.ensures.ok, c.reserve.ensures.len);
  capacity = c.reserve.ensures.capacity;
}
