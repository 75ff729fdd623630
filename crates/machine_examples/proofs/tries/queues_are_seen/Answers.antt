use Rattle.prioritizer.specs.Number.{number_of}
use Rattle.prioritizer.specs.Order.{order_cmp}
use Rattle.std.proofs.Common.{refl}
use Rattle.machine_examples.proofs.tries.queues_are_seen.Goals as goal

pub returns : goal.returns
unfolding order_cmp number_of
returns c = record {
  default = refl;
  oldest = refl;
  newest = refl;
  arrival = refl;
  under_penalty = refl;
  penalty_over = refl;
  swapped = refl;
  expired = refl;
  almost = refl;
  full_below = refl;
  full_at = refl;
  full_below_bytes = refl;
  full_at_bytes = refl;
  full_unlimited = refl;
  priorities = λ ten nine word none is_10 is_9 is_x is_none. ((rw (is_9, is_10) refl, rw (is_10, is_9) refl), (rw (is_10, is_x) refl, rw (is_x, is_10) refl), (rw (is_x, is_none) refl, rw (is_none, is_x) refl));
}
