use Rattle.prioritizer.specs.Order.{order_cmp}
use Rattle.std.proofs.Common.{refl}
use Rattle.machine_examples.proofs.tries.queue_steps_are_told.Goals as goal

pub returns : goal.returns
unfolding order_cmp
returns c = record {
  at_limit = refl;
  at_once = refl;
  before_entry = refl;
  without_limit = refl;
  one = refl;
  too_early = refl;
  two = refl;
  batch_goes = refl;
  batch_waits = refl;
  batch_comes = refl;
  batch_all = refl;
  batch_due = (refl, refl);
  batch_swapped = (refl, refl);
  batch_expired = (refl, refl);
  batch_none = (refl, refl);
}
