use Rattle.std.proofs.Common.{refl}
use Rattle.prioritizer.specs.Order.{order_cmp}
use Rattle.machine_examples.proofs.tries.second_queues_are_told.Goals as goal

pub returns : goal.returns
unfolding order_cmp
returns c = record {
  expires = refl;
  not_first = refl;
  goes = refl;
  comes = refl;
  other_batch = refl;
  takes = refl;
  elsewhere = refl;
  before = refl;
  behind = refl;
  wants = refl;
  wants_not = refl;
  wants_second = refl;
  held = refl;
  held_not = refl;
  held_by_none = refl;
  expiry = refl;
  expiry_first = refl;
  expiry_none = refl;
  swap_out = refl;
  swap_out_first = refl;
  swap_out_none = refl;
  swap_in = refl;
  swap_in_first = refl;
  swap_in_none = refl;
  checkpoint = refl;
  no_checkpoint = refl;
  last_but_one = refl;
  last = refl;
  reclaim = refl;
  no_reclaim = refl;
}
