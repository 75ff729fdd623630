-- What is known of slots where one reference more or less is held.
use Rattle.std.proofs.Common.{◌≡◌, ◌≢◌, ℕ, suc, ◌+◌, ◌-◌, ◌<◌, ◌≤◌, eqb, Bool, true, cond, List, [], ◌∷◌, ◌++◌, length, set, get_or, take, drop, refl, sym, ap, ◌∙◌, inl, inr, arith, eq-eqb, get_or-set_same, get_or-set_other}
use Rattle.std.proofs.lemmas.Bool.{cases_lt, cases_eq, ne_eqb}
use Rattle.std.proofs.lemmas.List.{get_or_past, set_past, take-append-drop}
use Rattle.std.proofs.lemmas.List.Sums.{sum_by_more, sum_by-append, sum_by-cons, sum_by-set}
use Rattle.flowfile_record.specs.declared.content.ContentRef.{ContentRef}
use Rattle.content_repo.specs.Append.{IsAppended}
use Rattle.content_repo.specs.Slots.{count_of, size_of, held_in, references_to, end_of, slot_with_count, unused, is_live}
use Rattle.content_repo.specs.declared.slot.Slot.{Slot}
use Rattle.store_core.specs.Placing.{bytes_in}
use Rattle.store_core.proofs.Reclaiming.{references-cons}

abbrev pub one_of : ℕ → ℕ → ℕ
one_of j k = cond (eqb j k) 1 0

one_same : (j k : ℕ) → j ≡ k → ◌≡◌ {A = ℕ} (one_of j k) 1
one_same j k e = ap {B = ℕ} (λ (b : Bool). cond b 1 0) (eq-eqb j k e)

one_other : (j k : ℕ) → j ≢ k → ◌≡◌ {A = ℕ} (one_of j k) 0
one_other j k ne = ap {B = ℕ} (λ (b : Bool). cond b 1 0) (ne_eqb j k ne)

pub refers_once : (k : ℕ) (at : ContentRef) → references_to k (at ∷ []) ≡ one_of at.slot k
refers_once k at = omega (arith, references-cons k at [])

-- a slot with references is there
pub counted_within : (slots : List Slot) (j : ℕ) → 0 < count_of slots j → j < length slots
counted_within slots j some = elim (cases_lt j (length slots)) [
  | inl lt ↦ lt
  | inr past ↦ absurd (omega (arith, some, ap (λ (slot : Slot). slot.count) (get_or_past slots j unused past)))
]

-- ---- one slot changes

count_here : (slots : List Slot) (j : ℕ) (new : Slot) → j < length slots → count_of (set slots j new) j ≡ new.count
count_here slots j new within = ap (λ (slot : Slot). slot.count) (get_or-set_same slots j new unused within)

count_there : (slots : List Slot) (j k : ℕ) (new : Slot) → k ≢ j → count_of (set slots j new) k ≡ count_of slots k
count_there slots j k new ne = ap (λ (slot : Slot). slot.count) (get_or-set_other slots j k new unused ne)

pub counts_more : (slots : List Slot) (j k : ℕ) (new : Slot) → j < length slots → new.count ≡ count_of slots j + 1 → count_of (set slots j new) k ≡ count_of slots k + one_of j k
counts_more slots j k new within is = elim (cases_eq k j) [
  | inl same ↦
      omega (
        arith,
        ap (count_of (set slots j new)) same,
        count_here slots j new within,
        is,
        ap (count_of slots) same,
        one_same j k (sym same),
      )
  | inr ne ↦ omega (arith, count_there slots j k new ne, one_other j k (λ e. ne (sym e)))
]

pub counts_less : (slots : List Slot) (j k : ℕ) (new : Slot) → j < length slots → new.count + 1 ≡ count_of slots j → count_of (set slots j new) k + one_of j k ≡ count_of slots k
counts_less slots j k new within is = elim (cases_eq k j) [
  | inl same ↦
      omega (
        arith,
        ap (count_of (set slots j new)) same,
        count_here slots j new within,
        is,
        ap (count_of slots) same,
        one_same j k (sym same),
      )
  | inr ne ↦ omega (arith, count_there slots j k new ne, one_other j k (λ e. ne (sym e)))
]

pub size_same : (slots : List Slot) (j k : ℕ) (new : Slot) → new.size ≡ size_of slots j → size_of (set slots j new) k ≡ size_of slots k
size_same slots j k new is = elim (cases_eq k j) [
  | inl same ↦ elim (cases_lt j (length slots)) [
    | inl within ↦
        ap (size_of (set slots j new)) same ∙ ap (λ (slot : Slot). slot.size) (get_or-set_same slots j new unused within) ∙ is ∙ ap (size_of slots) (sym same)
    | inr past ↦ ap (λ (l : List Slot). size_of l k) (set_past slots j new past)
  ]
  | inr ne ↦ ap (λ (slot : Slot). slot.size) (get_or-set_other slots j k new unused ne)
]

pub size_more : (slots : List Slot) (j k : ℕ) (new : Slot) → size_of slots j ≤ new.size → size_of slots k ≤ size_of (set slots j new) k
size_more slots j k new le = elim (cases_eq k j) [
  | inl same ↦ elim (cases_lt j (length slots)) [
    | inl within ↦
        omega (
          arith,
          le,
          ap (size_of slots) same,
          ap (size_of (set slots j new)) same,
          ap {B = ℕ} (λ (slot : Slot). slot.size) (get_or-set_same slots j new unused within),
        )
    | inr past ↦ omega (arith, ap (λ (l : List Slot). size_of l k) (set_past slots j new past))
  ]
  | inr ne ↦ omega (arith, ap {B = ℕ} (λ (slot : Slot). slot.size) (get_or-set_other slots j k new unused ne))
]

pub size_here : (slots : List Slot) (j : ℕ) (new : Slot) → j < length slots → size_of (set slots j new) j ≡ new.size
size_here slots j new within = ap (λ (slot : Slot). slot.size) (get_or-set_same slots j new unused within)

-- ---- one reference less

pub unheld : (slots new : List Slot) (at : ContentRef) (k : ℕ) → 0 < count_of slots at.slot → new ≡ slot_with_count slots at.slot (count_of slots at.slot - 1)
    → (count_of new k + one_of at.slot k ≡ count_of slots k) × (size_of new k ≡ size_of slots k)
unheld slots new at k some is =
    let slot : Slot = record { live = is_live slots at.slot; count = count_of slots at.slot - 1; size = size_of slots at.slot } in
    let less : (count_of slots at.slot - 1) + 1 ≡ count_of slots at.slot = omega (arith, some) in (
      ap (λ (l : List Slot). count_of l k + one_of at.slot k) is ∙ counts_less slots at.slot k slot (counted_within slots at.slot some) less,
      ap (λ (l : List Slot). size_of l k) is ∙ size_same slots at.slot k slot refl,
    )

-- one more
pub held_more : (slots new : List Slot) (at : ContentRef) (k : ℕ) → 0 < count_of slots at.slot → new ≡ slot_with_count slots at.slot (count_of slots at.slot + 1)
    → (count_of new k ≡ count_of slots k + one_of at.slot k) × (size_of new k ≡ size_of slots k)
held_more slots new at k some is =
    let slot : Slot = record { live = is_live slots at.slot; count = count_of slots at.slot + 1; size = size_of slots at.slot } in (
      ap (λ (l : List Slot). count_of l k) is ∙ counts_more slots at.slot k slot (counted_within slots at.slot some) refl,
      ap (λ (l : List Slot). size_of l k) is ∙ size_same slots at.slot k slot refl,
    )

-- ---- the bytes of the claims

bytes-cons : (slot : Slot) (slots : List Slot) → bytes_in (slot ∷ slots) ≡ slot.size + bytes_in slots
bytes-cons slot slots = sum_by-cons (λ (s : Slot). s.size) slot slots

-- slots of the same sizes, but for unused ones
pub bytes_same : (a b : List Slot) → ((k : ℕ) → size_of a k ≡ size_of b k) → bytes_in a ≡ bytes_in b
bytes_same [] [] same = refl
bytes_same [] (slot ∷ b) same = omega (arith, bytes-cons slot b, same 0, bytes_same [] b (λ k. same (suc k)))
bytes_same (slot ∷ a) [] same = omega (arith, bytes-cons slot a, same 0, bytes_same a [] (λ k. same (suc k)))
bytes_same (slot ∷ a) (other ∷ b) same = omega (arith, bytes-cons slot a, bytes-cons other b, same 0, bytes_same a b (λ k. same (suc k)))

-- ---- a content that was appended

pub record Appends (old new : List Slot) (at : ContentRef) : Type 0 where
  pub counts : (k : ℕ) → count_of new k ≡ count_of old k + one_of at.slot k
  pub sizes : (k : ℕ) → size_of old k ≤ size_of new k
  pub within : end_of at ≤ size_of new at.slot
  pub bytes : bytes_in new ≡ bytes_in old + at.size

pub appended : (bytes digest : List ℕ) (old new : List Slot) (at : ContentRef) → IsAppended bytes digest old new at → Appends old new at
appended bytes digest old new at is =
    let slot : Slot = record { live = true; count = count_of old at.slot + 1; size = end_of at } in
    let inside : at.slot < length old =
    elim (cases_lt at.slot (length old)) [
      | inl lt ↦ lt
      | inr past ↦ absurd (omega (arith, is.held, ap held_in (is.slots ∙ set_past old at.slot slot past)))
    ] in
    record {
      counts = λ k. ap (λ (l : List Slot). count_of l k) is.slots ∙ counts_more old at.slot k slot inside refl;
      sizes = λ k. omega (arith, ap (λ (l : List Slot). size_of l k) is.slots, size_more old at.slot k slot (omega (arith, is.offset)));
      within = omega (arith, ap (λ (l : List Slot). size_of l at.slot) is.slots, size_here old at.slot slot inside);
      bytes = omega (arith, ap bytes_in is.slots, sum_by-set (λ (s : Slot). s.size) old at.slot slot unused inside, is.offset);
    }

-- ---- references one after another

pub take_next : (k : ℕ) (refs : List ContentRef) (i : ℕ) (d : ContentRef) → i < length refs → references_to k (take (i + 1) refs) ≡ references_to k (take i refs) + one_of (get_or refs i d).slot k
take_next k refs i d lt = sum_by_more (λ (r : ContentRef). cond (eqb r.slot k) 1 0) refs i d lt

pub refers_both : (k : ℕ) (a b : List ContentRef) → references_to k (a ++ b) ≡ references_to k a + references_to k b
refers_both k a b = sum_by-append (λ (r : ContentRef). cond (eqb r.slot k) 1 0) a b

pub take_within : (k n : ℕ) (refs : List ContentRef) → references_to k (take n refs) ≤ references_to k refs
take_within k n refs = omega (arith, refers_both k (take n refs) (drop n refs), ap (references_to k) (take-append-drop n refs))

-- the next of some contents has its slot referred to still
pub next_held : (slots : List Slot) (first : ℕ → ℕ) (refs : List ContentRef) (i : ℕ) (d : ContentRef) → i < length refs
    → count_of slots (get_or refs i d).slot + references_to (get_or refs i d).slot (take i refs) ≡ first (get_or refs i d).slot
    → references_to (get_or refs i d).slot refs ≤ first (get_or refs i d).slot → 0 < count_of slots (get_or refs i d).slot
next_held slots first refs i d lt counts enough =
    let at = get_or refs i d in
    omega (arith, counts, enough, take_within at.slot (i + 1) refs, take_next at.slot refs i d lt, one_same at.slot at.slot refl)

pub once_itself : (j : ℕ) → ◌≡◌ {A = ℕ} (one_of j j) 1
once_itself j = one_same j j refl
