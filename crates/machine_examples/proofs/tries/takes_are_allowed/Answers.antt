use Rattle.prioritizer.specs.Order.{order_cmp}
use Rattle.std.proofs.Common.{refl}
use Rattle.machine_examples.proofs.tries.takes_are_allowed.Goals as goal

pub returns : goal.returns
unfolding order_cmp
returns c = record {
  fresh = refl;
  free = refl;
  second = refl;
  bin_three = refl;
  bin_turned = refl;
  bin_twice = refl;
  bin_none = refl;
  bin_first = refl;
  bin_skipping = refl;
  bin_in_turn = refl;
  bin_last_turned = refl;
  fragments_none = refl;
  fragments_most = λ files is. rw is refl;
  fragments_more = λ files is. rw is refl;
}
