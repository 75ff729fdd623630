-- Lists of slots: the first that passes a test, one that is put in place of another, and how references are held.
use Rattle.std.proofs.Common.{◌≡◌, ◌≢◌, ℕ, ◌+◌, ◌<◌, max, Bool, true, false, cond, nat_lt, eqb, List, [], ◌∷◌, ◌++◌, length, get_or, position, Option, None, Some, IfSome, IfNone, refl, sym, ap, ◌∙◌, inl, inr, arith, get_or-set_same, get_or-set_other}
use Rattle.std.specs.List.{position_or_len}
use Rattle.std.proofs.lemmas.Bool.{cases_eq, lt-ltb, eq-eqb, ne_eqb}
use Rattle.std.proofs.lemmas.List.Sums.{position_or_len_is, sum_by-append}
use Rattle.flowfile_record.specs.declared.content.ContentRef.{ContentRef}
use Rattle.content_repo.specs.declared.slot.Slot.{Slot}
use Rattle.content_repo.specs.SlotSet.{has, bit_of, IsLeast}
use Rattle.content_repo.specs.Slots.{unused, slot_numbered, count_of, size_of, is_open, is_free, open_slot, free_slot, next_slot, taken, references_to, covered, end_of, IsLoaded, AreSorted}

pub bit_true : (b : Bool) → bit_of b ≡ 1 → b ≡ true
bit_true true e = refl
bit_true false e = absurd (omega (arith, e))

pub bit_false : (b : Bool) → bit_of b ≡ 0 → b ≡ false
bit_false true e = absurd (omega (arith, e))
bit_false false e = refl

not_below : (n : ℕ) → nat_lt n n ≡ false
not_below n = grind arith

-- ---- the first slot that passes

module _ {X : Type 0} (p : X → Bool) (xs : List X) (d : X) where
  pub first_is : (i : ℕ) → i < length xs → p (get_or xs i d) ≡ true → ((k : ℕ) → k < i → p (get_or xs k d) ≡ false) → position p xs ≡ Some i
  first_is i within passes before =
      let at : position_or_len p xs ≡ i = position_or_len_is p xs i d (omega arith) before (λ _. passes) in
      rw (at, lt-ltb i (length xs) within) refl

  pub first_none : ((k : ℕ) → k < length xs → p (get_or xs k d) ≡ false) → position p xs ≡ None
  first_none none =
      let at : position_or_len p xs ≡ length xs = position_or_len_is p xs (length xs) d (omega arith) none (λ w. absurd (omega (arith, w))) in
      rw (at, not_below (length xs)) refl

module _ (slots : List Slot) (open_slots free_slots : List ℕ) (sorted : AreSorted slots open_slots free_slots) where
  pub open_is : (k : ℕ) → IsLeast open_slots k → open_slot slots ≡ Some k
  open_is k least =
      first_is is_open slots unused k (omega (arith, least.within, sorted.long)) (bit_true _ (sym (sorted.opened k least.within) ∙ least.member))
      (λ j before. bit_false _ (sym (sorted.opened j (omega (arith, least.within, before))) ∙ least.first j before))

  pub open_none : ((k : ℕ) → k < 65536 → has open_slots k ≡ 0) → open_slot slots ≡ None
  open_none none =
      first_none is_open slots unused
      (λ j within. let below : j < 65536 = omega (arith, within, sorted.long) in bit_false _ (sym (sorted.opened j below) ∙ none j below))

  pub free_is : (k : ℕ) → IsLeast free_slots k → free_slot slots ≡ Some k
  free_is k least =
      first_is is_free slots unused k (omega (arith, least.within, sorted.long)) (bit_true _ (sym (sorted.free k least.within) ∙ least.member))
      (λ j before. bit_false _ (sym (sorted.free j (omega (arith, least.within, before))) ∙ least.first j before))

  pub free_none : ((k : ℕ) → k < 65536 → has free_slots k ≡ 0) → free_slot slots ≡ None
  free_none none =
      first_none is_free slots unused
      (λ j within. let below : j < 65536 = omega (arith, within, sorted.long) in bit_false _ (sym (sorted.free j below) ∙ none j below))

  -- what is found where no slot is open
  pub next_is_free : (found : Option ℕ) → open_slot slots ≡ None → IfSome found (IsLeast free_slots)
      → IfNone found ((k : ℕ) → k < 65536 → has free_slots k ≡ 0) → found ≡ next_slot slots
  next_is_free None closed least none = rw closed (sym (free_none none))
  next_is_free (Some k) closed least none = rw closed (sym (free_is k least))

  pub next_is_open : (k : ℕ) → IsLeast open_slots k → Some k ≡ next_slot slots
  next_is_open k least = rw (open_is k least) refl

-- ---- a slot in place of another

-- ---- references that are held one after another

references-more : (k : ℕ) (at : ContentRef) (refs : List ContentRef) → references_to k (refs ++ at ∷ []) ≡ references_to k refs + (0 + cond (eqb at.slot k) 1 0)
references-more k at refs = sum_by-append (λ (r : ContentRef). cond (eqb r.slot k) 1 0) refs (at ∷ [])

pub references-more_yes : (k : ℕ) (at : ContentRef) (refs : List ContentRef) → at.slot ≡ k → references_to k (refs ++ at ∷ []) ≡ references_to k refs + 1
references-more_yes k at refs same = references-more k at refs ∙ ap (λ (b : Bool). references_to k refs + (0 + cond b 1 0)) (eq-eqb at.slot k same)

pub references-more_no : (k : ℕ) (at : ContentRef) (refs : List ContentRef) → at.slot ≢ k → references_to k (refs ++ at ∷ []) ≡ references_to k refs
references-more_no k at refs differs = references-more k at refs ∙ ap (λ (b : Bool). references_to k refs + (0 + cond b 1 0)) (ne_eqb at.slot k differs) ∙ omega arith

pub covered-more_yes : (k : ℕ) (at : ContentRef) (refs : List ContentRef) → at.slot ≡ k → covered k (refs ++ at ∷ []) ≡ max (covered k refs) (end_of at)
covered-more_yes k at [] same = rw (eq-eqb at.slot k same) (omega arith)
covered-more_yes k at (r ∷ refs) same = let more = covered-more_yes k at refs same in by_slot (eqb r.slot k) more
  where
    by_slot : (b : Bool) → covered k (refs ++ at ∷ []) ≡ max (covered k refs) (end_of at)
        → cond b (max (end_of r) (covered k (refs ++ at ∷ []))) (covered k (refs ++ at ∷ [])) ≡ max (cond b (max (end_of r) (covered k refs)) (covered k refs)) (end_of at)
    by_slot true e = omega (arith, e)
    by_slot false e = e

pub covered-more_no : (k : ℕ) (at : ContentRef) (refs : List ContentRef) → at.slot ≢ k → covered k (refs ++ at ∷ []) ≡ covered k refs
covered-more_no k at [] differs = rw (ne_eqb at.slot k differs) refl
covered-more_no k at (r ∷ refs) differs = ap (λ (n : ℕ). cond (eqb r.slot k) (max (end_of r) n) n) (covered-more_no k at refs differs)

pub loaded_more : (refs : List ContentRef) (at : ContentRef) (slots : List Slot) (size : ℕ) → IsLoaded refs slots → at.slot < length slots
    → size ≡ max (size_of slots at.slot) (end_of at) → IsLoaded (refs ++ at ∷ []) (taken slots at.slot size)
loaded_more refs at slots size loaded within sized =
    let slot : Slot = record { live = true; count = count_of slots at.slot + 1; size = size } in
    let here : slot_numbered (taken slots at.slot size) at.slot ≡ slot = get_or-set_same slots at.slot slot unused within in
    let others = λ (k : ℕ) (differs : k ≢ at.slot). get_or-set_other slots at.slot k slot unused differs in
    let at_slot = λ (k : ℕ) (same : k ≡ at.slot). ap (slot_numbered (taken slots at.slot size)) same ∙ here in
    record {
      count = λ k.
          elim (cases_eq k at.slot) [
            | inl same ↦
                ap (λ (s : Slot). s.count) (at_slot k same) ∙ ap (λ (n : ℕ). n + 1) (loaded.count at.slot)
                ∙ ap (λ (j : ℕ). references_to j refs + 1) (sym same) ∙ sym (references-more_yes k at refs (sym same))
            | inr differs ↦ ap (λ (s : Slot). s.count) (others k differs) ∙ loaded.count k ∙ sym (references-more_no k at refs (λ e. differs (sym e)))
          ];
      size = λ k.
          elim (cases_eq k at.slot) [
            | inl same ↦
                ap (λ (s : Slot). s.size) (at_slot k same) ∙ sized ∙ ap (λ (n : ℕ). max n (end_of at)) (loaded.size at.slot)
                ∙ ap (λ (j : ℕ). max (covered j refs) (end_of at)) (sym same) ∙ sym (covered-more_yes k at refs (sym same))
            | inr differs ↦ ap (λ (s : Slot). s.size) (others k differs) ∙ loaded.size k ∙ sym (covered-more_no k at refs (λ e. differs (sym e)))
          ];
      live = λ k.
          elim (cases_eq k at.slot) [
            | inl same ↦
                ap (λ (s : Slot). s.live) (at_slot k same)
                ∙ sym (ap (nat_lt 0) (references-more_yes k at refs (sym same)) ∙ lt-ltb 0 (references_to k refs + 1) (omega arith))
            | inr differs ↦
                ap (λ (s : Slot). s.live) (others k differs) ∙ loaded.live k ∙ sym (ap (nat_lt 0) (references-more_no k at refs (λ e. differs (sym e))))
          ];
    }

-- ---- no contents

pub sorted_none : (slots : List Slot) (opens frees : List ℕ) → length slots ≡ 65536 → ((k : ℕ) → slot_numbered slots k ≡ unused)
    → ((k : ℕ) → has opens k ≡ 0) → ((k : ℕ) → k < 65536 → has frees k ≡ 1) → AreSorted slots opens frees
sorted_none slots opens frees long none closed free = record {
  long = long;
  opened = λ k below. closed k ∙ sym (ap (λ (s : Slot). bit_of (is_open s)) (none k));
  free = λ k below. free k below ∙ sym (ap (λ (s : Slot). bit_of (is_free s)) (none k));
  unused = λ k free. none k;
}
