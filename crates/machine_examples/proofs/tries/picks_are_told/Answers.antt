use Rattle.machine_examples.proofs.TriedPicks.{countless, nameless}
use Rattle.machine_examples.proofs.TriedPicks.{third-part, zero-part, past-part, strange-part, many-parts, two-no-whole, three-whole, lone-beside, whole-earlier, lone-earlier}
use Rattle.std.proofs.Common.{refl}
use Rattle.machine_examples.proofs.tries.picks_are_told.Goals as goal

pub returns : goal.returns
returns c = record {
  one = refl;
  none = refl;
  source = refl;
  bin_too_few = refl;
  bin_enough = refl;
  bin_most = refl;
  bin_none = refl;
  bin_full = λ full is. rw is refl;
  bin_room_for_nothing = λ full is. rw is refl;
  bin_gap = λ full is. rw is refl;
  bin_nothing_behind = λ full is. rw is refl;
  part_third = third-part;
  part_zero = zero-part;
  part_past = past-part;
  part_no_number = strange-part;
  part_too_many = many-parts;
  whole_two = two-no-whole;
  whole_three = three-whole;
  whole_beside = lone-beside;
  whole_whole = whole-earlier;
  whole_lone = lone-earlier;
  whole_beside_part = λ a b c d again greater are. simp (are.first, are.second, are.other_first);
  whole_of_two = λ a b c d again greater are. simp (are.first, are.second, are.other_first, are.other_second);
  doubled = λ a b c d again greater are. simp (are.first, are.second, are.first_again);
  twice = λ a b c d again greater are. simp (are.first, are.first_again);
  other_count = λ a b c d again greater are. simp (are.first, are.of_greater);
  no_count = countless;
  no_identifier = nameless;
}
