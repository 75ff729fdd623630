use Rattle.std.proofs.Common.{◌≡◌, ℕ, ◌∙◌, List, [], ◌∷◌, refl, ap}
use Rattle.std.specs.Prelude.{◌||◌, nat_lt}
use Rattle.std.specs.FinSet.{contains, from_list, union, contains-empty, contains-from_list, contains-union}
use Rattle.machine_model.specs.State.{Kin, kin_cmp}
use Rattle.machine_model.proofs.KinSets.{holds, kin_cmp-total, kin_retained}
use Rattle.machine_examples.specs.Agings.{past_line}
use Rattle.machine_model.specs.Acting.{received_attributes}
use Rattle.machine_examples.specs.Small.{a_txt, no_kin}
use Rattle.machine_examples.proofs.TriedParts.{same_attributes-self}
use Rattle.machine_examples.proofs.tries.agings_are_told.Goals as goal

clones : List (ℕ × ℕ × ℕ)
clones = (2, 1, 10_004) ∷ (3, 1, 10_005) ∷ (4, 1, 10_006) ∷ (5, 1, 10_007) ∷ []

kin_is : past_line.kin ≡ union no_kin (from_list clones)
unfolding clones
kin_is = rw (same_attributes-self (received_attributes a_txt)) refl

among : (kin : ℕ × ℕ × ℕ) → contains past_line.kin kin ≡ holds kin clones
among kin = ap (λ (all : Kin). contains all kin) kin_is ∙ contains-union kin_cmp-total no_kin (from_list clones) kin ∙ (λ i. contains-empty kin_cmp kin i || contains-from_list kin_cmp-total clones kin i)

pub returns : goal.returns
unfolding clones
returns c =
    let left = kin_retained (λ kin. nat_lt 10_000 kin.2) ((2, 1, 9_999) ∷ (3, 1, 10_000) ∷ (4, 1, 10_001) ∷ []) in
    record {
      forgets = rw left refl;
      at_the_last = rw left refl;
      within_a_file = refl;
      past_the_last = refl;
      again = refl;
      below = refl;
      due_not_yet = refl;
      due = refl;
      due_last_file = refl;
      due_no_more = refl;
      due_few = refl;
      numbers = rw (same_attributes-self (received_attributes a_txt)) (refl, refl);
      child = among (3, 1, 10_005);
      other_event = among (3, 1, 10_004);
      counted_from_one = among (3, 1, 2);
    }
