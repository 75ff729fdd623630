use Rattle.std.proofs.Common.{refl}
use Rattle.machine_examples.proofs.tries.copies_are_told.Goals as goal

pub returns : goal.returns
returns c = record {
  copied = λ file may. rw may refl;
  not_copied = λ file may. rw may refl;
  true_places = refl;
  routed_two = λ file may. rw may refl;
  routed_one = λ file may. refl;
  routed_none = λ file. refl;
}
