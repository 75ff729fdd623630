use Rattle.std.proofs.Common.{refl}
use Rattle.prioritizer.specs.Order.{order_cmp}
use Rattle.machine_examples.proofs.tries.batches_are_told.Goals as goal

pub returns : goal.returns
unfolding order_cmp
returns c = record {
  last = refl;
  newest = refl;
  few = refl;
  odd = refl;
  two_go = refl;
  one_goes_not = refl;
  twice_goes_not = refl;
  views = refl;
  lower_comes = refl;
  higher_waits = refl;
  full = refl;
  not_full = refl;
  full_bytes = refl;
  not_full_bytes = refl;
  flight_is_not_eligible = refl;
  flight_does_not_expire = refl;
  flight_does_not_go = refl;
  last_at_rest_goes = refl;
  penalised_goes = refl;
  flight_is_active = refl;
  lowest_comes = refl;
  flight_counts = refl;
  flight_counts_once = refl;
}
