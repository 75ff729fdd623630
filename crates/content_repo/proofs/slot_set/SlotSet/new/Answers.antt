use Rattle.std.proofs.Common.{ℕ, [], ◌∷◌, refl, length, ap, ◌∙◌}
use Rattle.std.proofs.lemmas.List.{length-replicate}
use Rattle.content_repo.proofs.SlotSets.{all_zero, marked_zeros, none_of_zeros}
use Rattle.content_repo.proofs.slot_set.SlotSet.new.Goals as goal

pub invariant_of-result : goal.invariant_of-result
invariant_of-result c =
    let words = c.in_ok-vec.field-0.items in
    let groups = c.in_ok-vec-2.field-0.items in
    let no_words = all_zero words 1024 (c.in_ok-vec.ensures.items_if_clones_equal (λ y e. e)) in
    let no_groups = all_zero groups 16 (c.in_ok-vec-2.ensures.items_if_clones_equal (λ y e. e)) in
    record {
      words_length = ap length (c.in_ok-vec.ensures.items_if_clones_equal (λ y e. e)) ∙ length-replicate {A = ℕ} 1024 0;
      groups_length = ap length (c.in_ok-vec-2.ensures.items_if_clones_equal (λ y e. e)) ∙ length-replicate {A = ℕ} 16 0;
      top_length = refl;
      lower = marked_zeros words groups no_words no_groups;
      upper = marked_zeros groups (0 ∷ []) no_groups (all_zero (0 ∷ []) 1 refl);
    }

pub returns : goal.returns
returns c slot = none_of_zeros c.in_ok-vec.field-0.items (all_zero c.in_ok-vec.field-0.items 1024 (c.in_ok-vec.ensures.items_if_clones_equal (λ y e. e))) slot
