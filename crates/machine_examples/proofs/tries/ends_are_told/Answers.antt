use Rattle.prioritizer.specs.Order.{order_cmp}
use Rattle.std.proofs.Common.{refl}
use Rattle.machine_examples.proofs.tries.ends_are_told.Goals as goal

pub returns : goal.returns
unfolding order_cmp
returns c = record {
  empty = refl;
  left = refl;
  queued = refl;
  penalised = refl;
  expired = refl;
  ring_blocked = λ text. refl;
  ring_loud = λ text. refl;
  ring_penalised = λ text. refl;
  ring_room = λ text. refl;
  ring_generating = λ text. refl;
  ring_nothing_wanted = λ text. refl;
  ring_quiet = λ text. refl;
  ring_more_to_make = λ text. refl;
  ring_beside_full = λ text. refl;
  ring_all_full = λ text. refl;
  filtered = λ pattern none. (rw none refl, rw none refl);
  found = λ pattern some. rw some refl;
  batch_stays = refl;
  batch_goes = refl;
  batch_comes = refl;
  but_for_its_going = refl;
  but_for_its_coming = refl;
  batches_in_ring = λ text. refl;
  but_for_these = λ text. refl;
}
