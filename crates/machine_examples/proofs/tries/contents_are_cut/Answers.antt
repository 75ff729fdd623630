use Rattle.machine_examples.proofs.TriedCuts.{doubled-given-up, exactly-cloned, lines-are, missing-given-up, segments-are, shorter-cloned, stranger-given-up, too-many-given-up, turned-given-up, two-joined, whole-joined}
use Rattle.std.proofs.Common.{refl}
use Rattle.machine_examples.proofs.tries.contents_are_cut.Goals as goal

pub returns : goal.returns
returns c = record {
  segments = segments-are;
  whole = exactly-cloned;
  shorter = shorter-cloned;
  no_segment = λ uuid short. refl;
  too_many = too-many-given-up;
  lines = lines-are;
  no_line = λ uuid short. refl;
  both_ends = λ uuid short. refl;
  covered = λ uuid short. refl;
  no_end = λ uuid short. refl;
  joined = two-joined;
  no_fragment = stranger-given-up;
  in_turn = whole-joined;
  turned = turned-given-up;
  missing = missing-given-up;
  doubled = doubled-given-up;
}
