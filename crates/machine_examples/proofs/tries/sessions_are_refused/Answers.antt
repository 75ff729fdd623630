use Rattle.machine_examples.proofs.TriedPuts.{there-refused, missing-refused, nameless-not-there}
use Rattle.std.proofs.Common.{refl}
use Rattle.machine_examples.proofs.tries.sessions_are_refused.Goals as goal

pub returns : goal.returns
returns c = record {
  expired = refl;
  twice = refl;
  penalised = refl;
  swapped = refl;
  strange = refl;
  two = refl;
  none = refl;
  no_processor = refl;
  given_gone = refl;
  given_missing = refl;
  given_nameless = refl;
  given_taking = refl;
  given_there = there-refused;
  given_not_there = missing-refused;
  given_same_index = λ text. refl;
  given_skipped_index = λ text. refl;
  given_past_count = λ text. refl;
  given_bytes = refl;
  given_moment = refl;
  given_nameless_there = nameless-not-there;
}
