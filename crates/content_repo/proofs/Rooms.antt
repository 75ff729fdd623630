-- What is left of the sizes of contents says whether there is room for them.
use Rattle.std.proofs.Common.{◌≡◌, ◌⊎◌, ℕ, zero, suc, ◌+◌, ◌<◌, ◌≤◌, min, Bool, true, false, cond, not, nat_lt, ◌&&◌, List, [], ◌∷◌, ◌++◌, length, set, take, position, count_by, Option, None, Some, refl, sym, ap, subst, ◌∙◌, inl, inr, arith, length-set, get_or-set_same, get_or-set_other}
use Rattle.std.specs.List.{position_or_len}
use Rattle.std.proofs.lemmas.Bool.{cases_eq, cases_lt, lt-ltb, le-ltb, ltb-true, ltb-false, not-true, and_parts}
use Rattle.std.proofs.lemmas.List.{get_or_past, take_more}
use Rattle.std.proofs.lemmas.List.Quantifiers.{position-Some}
use Rattle.std.proofs.lemmas.List.Sums.{fails_before_first, sum_by-cons, sum_by-set, sum_by-append}
use Rattle.content_repo.specs.declared.slot.Slot.{Slot}
use Rattle.content_repo.specs.Slots.{unused, slot_numbered, count_of, size_of, is_live, is_open, is_free, open_slot, free_slot, slot_or, next_slot, taken, SlotsHaveRoom, HasUnused}
use Rattle.content_repo.specs.Room.{left_behind, left_by_slot, left_by_live, left_by_new, left_by_all}

-- ---- one claim

pub left_full : (a : ℕ) (ns : List ℕ) → 1048576 ≤ a → left_behind a ns ≡ ns
left_full a [] le = refl
left_full a (n ∷ ns) le = rw (le-ltb a 1048576 le) refl

pub left_open : (a n : ℕ) (ns : List ℕ) → a < 1048576 → left_behind a (n ∷ ns) ≡ left_behind (a + n) ns
left_open a n ns lt = rw (lt-ltb a 1048576 lt) refl

-- a claim that is full is as full as any
pub left_capped : (a : ℕ) (ns : List ℕ) → left_behind (min a 1048576) ns ≡ left_behind a ns
left_capped a ns =
    elim (cases_lt a 1048576) [
      | inl below ↦ let same : min a 1048576 ≡ a = omega arith in ap (λ (b : ℕ). left_behind b ns) same
      | inr full ↦ left_full (min a 1048576) ns (omega arith) ∙ sym (left_full a ns full)
    ]

-- ---- the live slots

shut_by : (live : Bool) (size : ℕ) (ns : List ℕ) → (live && nat_lt size 1048576) ≡ false → cond live (left_behind size ns) ns ≡ ns
shut_by true size ns shut = left_full size ns (ltb-false size 1048576 shut)
shut_by false size ns shut = refl

shut_slot : (slot : Slot) (ns : List ℕ) → is_open slot ≡ false → left_by_slot slot ns ≡ ns
shut_slot slot ns shut = shut_by slot.live slot.size ns shut

open_by : (live : Bool) (size n : ℕ) (ns : List ℕ) → (live && nat_lt size 1048576) ≡ true → cond live (left_behind size (n ∷ ns)) (n ∷ ns) ≡ left_behind (size + n) ns
open_by true size n ns is = left_open size n ns (ltb-true size 1048576 is)
open_by false size n ns is = absurd cc

live_slot : (slot : Slot) (ns : List ℕ) → slot.live ≡ true → left_by_slot slot ns ≡ left_behind slot.size ns
live_slot slot ns live = rw live refl

all_shut : (slots : List Slot) (ns : List ℕ) → ((k : ℕ) → is_open (slot_numbered slots k) ≡ false) → left_by_live slots ns ≡ ns
all_shut [] ns shut = refl
all_shut (slot ∷ slots) ns shut = ap (left_by_live slots) (shut_slot slot ns (shut zero)) ∙ all_shut slots ns (λ k. shut (suc k))

taken_open : (slots : List Slot) (k n : ℕ) (ns : List ℕ) (after : Slot) → is_open (slot_numbered slots k) ≡ true
    → ((j : ℕ) → j < k → is_open (slot_numbered slots j) ≡ false) → after.live ≡ true → after.size ≡ size_of slots k + n
    → left_by_live slots (n ∷ ns) ≡ left_by_live (set slots k after) ns
taken_open [] k n ns after is before live size = absurd cc
taken_open (slot ∷ slots) zero n ns after is before live size =
    ap (left_by_live slots) (open_by slot.live slot.size n ns is ∙ ap (λ (a : ℕ). left_behind a ns) (sym size) ∙ sym (live_slot after ns live))
taken_open (slot ∷ slots) (suc k) n ns after is before live size =
    ap (left_by_live slots) (shut_slot slot (n ∷ ns) (before zero (omega arith)))
    ∙ taken_open slots k n ns after is (λ j lt. before (suc j) (omega arith)) live size
    ∙ ap (left_by_live (set slots k after)) (sym (shut_slot slot ns (before zero (omega arith))))

taken_free : (slots : List Slot) (k : ℕ) (ns : List ℕ) (after : Slot) → k < length slots → ((j : ℕ) → is_open (slot_numbered slots j) ≡ false)
    → after.live ≡ true → left_by_live (set slots k after) ns ≡ left_behind after.size ns
taken_free [] k ns after within shut live = absurd (omega arith)
taken_free (slot ∷ slots) zero ns after within shut live =
    all_shut slots (left_by_slot after ns) (λ j. shut (suc j)) ∙ live_slot after ns live
taken_free (slot ∷ slots) (suc k) ns after within shut live =
    ap (left_by_live (set slots k after)) (shut_slot slot ns (shut zero)) ∙ taken_free slots k ns after (omega arith) (λ j. shut (suc j)) live

-- ---- which slot is next

module _ (p : Slot → Bool) (slots : List Slot) where
  none_first : position p slots ≡ None → (k : ℕ) → k < length slots → p (slot_numbered slots k) ≡ false
  none_first none k within =
      elim (cases_lt (position_or_len p slots) (length slots)) [
        | inl some ↦ absurd (clash (rw (lt-ltb (position_or_len p slots) (length slots) some) at none))
        | inr past ↦ fails_before_first p slots k unused (omega arith)
      ]
    where
      clash : Some (position_or_len p slots) ≡ None → ⊥
      clash e = absurd cc

shut_all : (slots : List Slot) → open_slot slots ≡ None → (k : ℕ) → is_open (slot_numbered slots k) ≡ false
shut_all slots none k =
    elim (cases_lt k (length slots)) [
      | inl within ↦ none_first is_open slots none k within
      | inr past ↦ ap is_open (get_or_past slots k unused past)
    ]

counts_none : (slots : List Slot) → ((k : ℕ) → k < length slots → is_free (slot_numbered slots k) ≡ false) → count_by is_free slots ≡ 0
counts_none [] none = refl
counts_none (slot ∷ slots) none =
    sum_by-cons (λ (s : Slot). cond (is_free s) 1 0) slot slots
    ∙ omega (arith, ap {B = ℕ} (λ (b : Bool). cond b 1 0) (none zero (omega arith)), counts_none slots (λ k within. none (suc k) (omega arith)))

counts_set : (slots : List Slot) (k : ℕ) (after : Slot) → k < length slots
    → count_by is_free (set slots k after) + cond (is_free (slot_numbered slots k)) 1 0 ≡ count_by is_free slots + cond (is_free after) 1 0
counts_set slots k after within = sum_by-set (λ (s : Slot). cond (is_free s) 1 0) slots k after unused within

open_is_live : (slot : Slot) → is_open slot ≡ true → is_free slot ≡ false
open_is_live slot is = by_live slot.live (nat_lt slot.size 1048576) is
  where
    by_live : (live small : Bool) → (live && small) ≡ true → not live ≡ false
    by_live true small e = refl
    by_live false small e = absurd cc

module _ (slots : List Slot) (n : ℕ) (ns : List ℕ) (fresh : HasUnused slots) where
  abbrev after_at : ℕ → Slot
  after_at k = record { live = true; count = count_of slots k + 1; size = size_of slots k + n }

  into_open : (k : ℕ) → open_slot slots ≡ Some k → left_by_all slots (n ∷ ns) ≡ left_by_all (taken slots k (size_of slots k + n)) ns
  into_open k is =
      let found = position-Some is_open slots k unused is in
      let live = taken_open slots k n ns (after_at k) found.1 found.2 refl refl in
      let same : count_by is_free (taken slots k (size_of slots k + n)) ≡ count_by is_free slots =
      omega (arith, counts_set slots k (after_at k) found.0, ap {B = ℕ} (λ (b : Bool). cond b 1 0) (open_is_live (slot_numbered slots k) found.1)) in
      ap (left_by_new (count_by is_free slots)) live
      ∙ ap (λ (c : ℕ). left_by_new c (left_by_live (taken slots k (size_of slots k + n)) ns)) (sym same)

  into_free : (k : ℕ) → open_slot slots ≡ None → free_slot slots ≡ Some k → left_by_all slots (n ∷ ns) ≡ left_by_all (taken slots k (size_of slots k + n)) ns
  into_free k shut is =
      let found = position-Some is_free slots k unused is in
      let none = shut_all slots shut in
      let empty : size_of slots k ≡ 0 = ap (λ (s : Slot). s.size) (fresh k (not-true (is_live slots k) found.1)) in
      let one : count_by is_free slots ≡ suc (count_by is_free (taken slots k (size_of slots k + n))) =
      omega (arith, counts_set slots k (after_at k) found.0, ap {B = ℕ} (λ (b : Bool). cond b 1 0) found.1) in
      let size : 0 + n ≡ size_of slots k + n = omega arith in
      ap (left_by_new (count_by is_free slots)) (all_shut slots (n ∷ ns) none)
      ∙ ap (λ (c : ℕ). left_by_new c (n ∷ ns)) one
      ∙ ap (left_by_new (count_by is_free (taken slots k (size_of slots k + n))))
      (left_open 0 n ns (omega arith) ∙ ap (λ (a : ℕ). left_behind a ns) size ∙ sym (taken_free slots k ns (after_at k) found.0 none refl))

  into_none : open_slot slots ≡ None → free_slot slots ≡ None → left_by_all slots (n ∷ ns) ≡ n ∷ ns
  into_none shut none =
      ap (left_by_new (count_by is_free slots)) (all_shut slots (n ∷ ns) (shut_all slots shut))
      ∙ ap (λ (c : ℕ). left_by_new c (n ∷ ns)) (counts_none slots (none_first is_free slots none))

  into_next : (k : ℕ) (first second : Option ℕ) → open_slot slots ≡ first → free_slot slots ≡ second → slot_or first second ≡ Some k
      → left_by_all slots (n ∷ ns) ≡ left_by_all (taken slots k (size_of slots k + n)) ns
  into_next k None second shut is e = into_free k shut (is ∙ e)
  into_next k (Some j) second is other e = into_open k (is ∙ e)

  out_of_slots : (first second : Option ℕ) → open_slot slots ≡ first → free_slot slots ≡ second → slot_or first second ≡ None → left_by_all slots (n ∷ ns) ≡ n ∷ ns
  out_of_slots None second shut none e = into_none shut (none ∙ e)
  out_of_slots (Some j) second is none e = absurd cc

  unused_after : (k : ℕ) → HasUnused (taken slots k (size_of slots k + n))
  unused_after k j =
      elim (cases_eq j k) [
        | inl same ↦ here same (cases_lt k (length slots))
        | inr differs ↦ subst (λ (s : Slot). s.live ≡ false → s ≡ unused) (sym (get_or-set_other slots k j (after_at k) unused differs)) (fresh j)
      ]
    where
      here : j ≡ k → (k < length slots) ⊎ (length slots ≤ k) → is_live (taken slots k (size_of slots k + n)) j ≡ false → slot_numbered (taken slots k (size_of slots k + n)) j ≡ unused
      here same (inl within) =
          subst (λ (s : Slot). s.live ≡ false → s ≡ unused)
          (sym (ap (slot_numbered (taken slots k (size_of slots k + n))) same ∙ get_or-set_same slots k (after_at k) unused within)) (λ e. absurd cc)
      here same (inr past) = λ e. get_or_past (taken slots k (size_of slots k + n)) j unused (omega (arith, length-set slots k (after_at k)))

-- ---- nothing is left just where there is room

left_none_new : (count : ℕ) → left_by_new count [] ≡ []
left_none_new zero = refl
left_none_new (suc count) = left_none_new count

left_none_live : (slots : List Slot) → left_by_live slots [] ≡ []
left_none_live [] = refl
left_none_live (slot ∷ slots) = ap (left_by_live slots) (by_live slot.live) ∙ left_none_live slots
  where
    by_live : (live : Bool) → cond live (left_behind slot.size []) [] ≡ []
    by_live true = refl
    by_live false = refl

pub nothing_left : (ns : List ℕ) (slots : List Slot) → HasUnused slots → SlotsHaveRoom slots ns → left_by_all slots ns ≡ []
nothing_left [] slots fresh room = ap (left_by_new (count_by is_free slots)) (left_none_live slots) ∙ left_none_new (count_by is_free slots)
nothing_left (n ∷ ns) slots fresh room =
    into_next slots n ns fresh room.0 (open_slot slots) (free_slot slots) refl refl room.1
    ∙ nothing_left ns (taken slots room.0 (size_of slots room.0 + n)) (unused_after slots n ns fresh room.0) room.2

pub room_for : (ns : List ℕ) (slots : List Slot) → HasUnused slots → left_by_all slots ns ≡ [] → SlotsHaveRoom slots ns
room_for [] slots fresh none = tt
room_for (n ∷ ns) slots fresh none = by_next (λ k. room_for ns (taken slots k (size_of slots k + n))) (next_slot slots) refl
  where
    clash : [] ≡ n ∷ ns → ⊥
    clash e = absurd cc

    by_next : ((k : ℕ) → HasUnused (taken slots k (size_of slots k + n)) → left_by_all (taken slots k (size_of slots k + n)) ns ≡ [] → SlotsHaveRoom (taken slots k (size_of slots k + n)) ns)
        → (next : Option ℕ) → next_slot slots ≡ next → SlotsHaveRoom slots (n ∷ ns)
    by_next rest None e = absurd (clash (sym none ∙ out_of_slots slots n ns fresh (open_slot slots) (free_slot slots) refl refl e))
    by_next rest (Some k) e =
        let step = into_next slots n ns fresh k (open_slot slots) (free_slot slots) refl refl e in
        (k, e, rest k (unused_after slots n ns fresh k) (sym step ∙ none))

-- ---- one slot takes all

into_first_open : (slots : List Slot) (k : ℕ) (ns : List ℕ) → is_open (slot_numbered slots k) ≡ true → ((j : ℕ) → j < k → is_open (slot_numbered slots j) ≡ false)
    → left_behind (size_of slots k) ns ≡ [] → left_by_live slots ns ≡ []
into_first_open [] k ns is before none = absurd cc
into_first_open (slot ∷ slots) zero ns is before none =
    ap (left_by_live slots) (live_slot slot ns (and_parts slot.live (nat_lt slot.size 1048576) is).0 ∙ none) ∙ left_none_live slots
into_first_open (slot ∷ slots) (suc k) ns is before none =
    ap (left_by_live slots) (shut_slot slot ns (before zero (omega arith))) ∙ into_first_open slots k ns is (λ j lt. before (suc j) (omega arith)) none

into_one : (slots : List Slot) (ns : List ℕ) (k : ℕ) (first second : Option ℕ) → HasUnused slots → open_slot slots ≡ first → free_slot slots ≡ second
    → slot_or first second ≡ Some k → left_behind (size_of slots k) ns ≡ [] → left_by_all slots ns ≡ []
into_one slots ns k None second fresh shut is e none =
    let found = position-Some is_free slots k unused (is ∙ e) in
    let after : Slot = record { live = true; count = 0; size = 0 } in
    let empty : size_of slots k ≡ 0 = ap (λ (s : Slot). s.size) (fresh k (not-true (is_live slots k) found.1)) in
    let one : count_by is_free slots ≡ suc (count_by is_free (set slots k after)) =
    omega (arith, counts_set slots k after found.0, ap {B = ℕ} (λ (b : Bool). cond b 1 0) found.1) in
    ap (left_by_new (count_by is_free slots)) (all_shut slots ns (shut_all slots shut)) ∙ ap (λ (c : ℕ). left_by_new c ns) one
    ∙ ap (left_by_new (count_by is_free (set slots k after))) (ap (λ (a : ℕ). left_behind a ns) (sym empty) ∙ none)
    ∙ left_none_new (count_by is_free (set slots k after))
into_one slots ns k (Some j) second fresh is other e none =
    let found = position-Some is_open slots k unused (is ∙ e) in
    ap (left_by_new (count_by is_free slots)) (into_first_open slots k ns found.1 found.2 none) ∙ left_none_new (count_by is_free slots)

pub one_takes_all : (slots : List Slot) (ns : List ℕ) (k : ℕ) → HasUnused slots → next_slot slots ≡ Some k → left_behind (size_of slots k) ns ≡ [] → SlotsHaveRoom slots ns
one_takes_all slots ns k fresh is none = room_for ns slots fresh (into_one slots ns k (open_slot slots) (free_slot slots) fresh refl refl is none)

-- ---- in loops

pub left_by_new-more : (count : ℕ) (ns : List ℕ) → left_by_new (suc count) ns ≡ left_behind 0 (left_by_new count ns)
left_by_new-more zero ns = refl
left_by_new-more (suc count) ns = left_by_new-more count (left_behind 0 ns)

pub left_by_live-more : (slots : List Slot) (slot : Slot) (ns : List ℕ) → left_by_live (slots ++ slot ∷ []) ns ≡ left_by_slot slot (left_by_live slots ns)
left_by_live-more [] slot ns = refl
left_by_live-more (s ∷ slots) slot ns = left_by_live-more slots slot (left_by_slot s ns)

pub free_more : (slots : List Slot) (k : ℕ) → k < length slots → count_by is_free (take (k + 1) slots) ≡ count_by is_free (take k slots) + cond (is_free (slot_numbered slots k)) 1 0
free_more slots k within =
    ap (count_by is_free) (take_more slots k unused within)
    ∙ sum_by-append (λ (s : Slot). cond (is_free s) 1 0) (take k slots) (slot_numbered slots k ∷ [])
    ∙ omega arith
