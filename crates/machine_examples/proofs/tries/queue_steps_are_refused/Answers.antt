use Rattle.std.proofs.Common.{refl}
use Rattle.machine_examples.proofs.tries.queue_steps_are_refused.Goals as goal

pub returns : goal.returns
returns c = record {
  fresh = refl;
  one_fresh = refl;
  nothing = refl;
  twice = refl;
  no_connection = refl;
  other_batch = refl;
  two = refl;
  few = refl;
  higher = refl;
  swapped_expires = refl;
  swapped_goes = refl;
  strange = refl;
  waits = refl;
}
