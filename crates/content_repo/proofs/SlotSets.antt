-- One bit of words changed, and the least member of a set in three levels.
use Rattle.std.proofs.Common.{◌≡◌, ◌≢◌, ℕ, zero, suc, replicate, ◌+◌, ◌*◌, ◌/◌, ◌%◌, ◌^◌, ◌<◌, ◌≤◌, List, length, get_or, set, bit_and, bit_or, w64, refl, sym, ap, ◌∙◌, inl, inr, arith, length-set, get_or-set_same, get_or-set_other}
use Rattle.std.specs.Int.{bit_at, bit_not, trailing_zeros}
use Rattle.std.proofs.lemmas.Bool.{cases_eq, cases_lt}
use Rattle.std.proofs.lemmas.List.{get_or_past}
use Rattle.std.proofs.lemmas.Nat.{and_le_l}
use Rattle.std.proofs.lemmas.Nat.Bits.{bit_at-zero, bit_at-trailing_zeros, bit_at_set_same, bit_at_set_other, bit_at_clear_same, bit_at_clear_other}
use Rattle.content_repo.specs.SlotSet.{has, IsChangedAt, IsFirstOf, IsLeast, AreMarked, AreLevels}

-- ---- a word of one bit set, and of one cleared

abbrev pub set_in : ℕ → ℕ → ℕ
set_in word k = bit_or word (1 * 2 ^ k % 2 ^ 64)

abbrev pub cleared_in : ℕ → ℕ → ℕ
cleared_in word k = bit_and word (bit_not w64 (1 * 2 ^ k % 2 ^ 64))

module _ (words : List ℕ) (place : ℕ) (within : place / 64 < length words) where
  has-set : (word : ℕ) → has (set words (place / 64) word) place ≡ bit_at word (place % 64)
  has-set word = ap (λ n. bit_at n (place % 64)) (get_or-set_same words (place / 64) word 0 within)

  -- a word that keeps its other bits changes at one alone
  changed : (word : ℕ) → ((i : ℕ) → i < 64 → i ≢ place % 64 → bit_at word i ≡ bit_at (get_or words (place / 64) 0) i) → IsChangedAt place words (set words (place / 64) word)
  changed word kept = record {
    size = length-set words (place / 64) word;
    words = λ w differs. get_or-set_other words (place / 64) w word 0 differs;
    others = λ other differs.
        elim (cases_eq (other / 64) (place / 64)) [
          | inl same ↦ rw (same, get_or-set_same words (place / 64) word 0 within) (kept (other % 64) (omega arith) (λ index. differs (omega arith)))
          | inr apart ↦ ap (λ n. bit_at n (other % 64)) (get_or-set_other words (place / 64) (other / 64) word 0 apart)
        ];
  }

  pub set-here : has (set words (place / 64) (set_in (get_or words (place / 64) 0) (place % 64))) place ≡ 1
  set-here = has-set _ ∙ bit_at_set_same w64 (get_or words (place / 64) 0) (place % 64) (omega arith)

  pub set-changed : IsChangedAt place words (set words (place / 64) (set_in (get_or words (place / 64) 0) (place % 64)))
  set-changed = changed _ (λ i below differs. bit_at_set_other w64 (get_or words (place / 64) 0) (place % 64) (omega arith) i differs)

  pub clear-here : has (set words (place / 64) (cleared_in (get_or words (place / 64) 0) (place % 64))) place ≡ 0
  clear-here = has-set _ ∙ bit_at_clear_same w64 (get_or words (place / 64) 0) (place % 64) (omega arith)

  pub clear-changed : IsChangedAt place words (set words (place / 64) (cleared_in (get_or words (place / 64) 0) (place % 64)))
  clear-changed = changed _ (λ i below differs. bit_at_clear_other w64 (get_or words (place / 64) 0) (place % 64) (omega arith) i below differs)

  pub clear-left : get_or (set words (place / 64) (cleared_in (get_or words (place / 64) 0) (place % 64))) (place / 64) 0 ≤ get_or words (place / 64) 0
  clear-left =
      omega (
        arith,
        get_or-set_same words (place / 64) (cleared_in (get_or words (place / 64) 0) (place % 64)) 0 within,
        and_le_l (get_or words (place / 64) 0) (bit_not w64 (1 * 2 ^ (place % 64) % 2 ^ 64)),
      )

-- the first bit of a word
pub first_of-is : (words : List ℕ) (word : ℕ) → 0 < get_or words word 0 → get_or words word 0 < 2 ^ 64 → IsFirstOf words word (word * 64 + trailing_zeros w64 (get_or words word 0))
first_of-is words word some fits =
    let lowest = bit_at-trailing_zeros w64 (get_or words word 0) some fits in
    let place = word * 64 + trailing_zeros w64 (get_or words word 0) in
    let here : place / 64 ≡ word = omega (arith, lowest.0) in
    let index : place % 64 ≡ trailing_zeros w64 (get_or words word 0) = omega (arith, lowest.0) in
    record {
      at = here;
      member = rw (here, index) lowest.1;
      first = λ other same before. rw same (lowest.2 (other % 64) (omega (arith, here, index)));
    }

-- ---- marks of words

no_bit : (words : List ℕ) (place : ℕ) → get_or words (place / 64) 0 ≡ 0 → has words place ≡ 0
no_bit words place none = rw none (bit_at-zero (place % 64))

-- a word that has a bit
pub has_some : (words : List ℕ) (place : ℕ) → has words place ≡ 1 → 0 < get_or words (place / 64) 0
has_some words place bit =
    elim (cases_eq (get_or words (place / 64) 0) 0) [
      | inl none ↦ absurd (omega (arith, bit, no_bit words place none))
      | inr some ↦ omega arith
    ]

-- a marked word has members, and is there
pub marked_some : (words marks : List ℕ) (word : ℕ) → AreMarked words marks → has marks word ≡ 1 → 0 < get_or words word 0
marked_some words marks word marked bit =
    elim (cases_eq (get_or words word 0) 0) [
      | inl none ↦ absurd (omega (arith, bit, marked.unmarked word none))
      | inr some ↦ omega arith
    ]

pub some_within : (words : List ℕ) (word : ℕ) → 0 < get_or words word 0 → word < length words
some_within words word some =
    elim (cases_lt word (length words)) [
      | inl within ↦ within
      | inr past ↦ absurd (omega (arith, some, get_or_past words word 0 past))
    ]

module _ (words marks words2 marks2 : List ℕ) (place : ℕ) (marked : AreMarked words marks) (below : IsChangedAt place words words2) where
  pub marked_after : IsChangedAt (place / 64) marks marks2 → (has marks2 (place / 64) ≡ 0 → get_or words2 (place / 64) 0 ≡ 0) → (get_or words2 (place / 64) 0 ≡ 0 → has marks2 (place / 64) ≡ 0) → AreMarked words2 marks2
  marked_after above clear unmarked = record {
    clear = λ w bit.
        elim (cases_eq w (place / 64)) [
          | inl same ↦ rw same (clear (rw same at bit))
          | inr differs ↦ below.words w differs ∙ marked.clear w (sym (above.others w differs) ∙ bit)
        ];
    unmarked = λ w none.
        elim (cases_eq w (place / 64)) [
          | inl same ↦ rw same (unmarked (rw same at none))
          | inr differs ↦ above.others w differs ∙ marked.unmarked w (sym (below.words w differs) ∙ none)
        ];
  }

  pub marked_with : IsChangedAt (place / 64) marks marks2 → has words2 place ≡ 1 → has marks2 (place / 64) ≡ 1 → AreMarked words2 marks2
  marked_with above member mark =
      marked_after above (λ none. absurd (omega (arith, none, mark))) (λ none. absurd (omega (arith, has_some words2 place member, none)))

  pub marked_without : IsChangedAt (place / 64) marks marks2 → get_or words2 (place / 64) 0 ≡ 0 → has marks2 (place / 64) ≡ 0 → AreMarked words2 marks2
  marked_without above none unmarked = marked_after above (λ _. none) (λ _. unmarked)

-- a word that has members left keeps its mark
pub marked_left : (words marks words2 : List ℕ) (place : ℕ) → AreMarked words marks → IsChangedAt place words words2
    → get_or words2 (place / 64) 0 ≤ get_or words (place / 64) 0 → 0 < get_or words2 (place / 64) 0 → AreMarked words2 marks
marked_left words marks words2 place marked below left some =
    marked_after words marks words2 marks place marked below
    (record { size = refl; words = λ w differs. refl; others = λ w differs. refl })
    (λ none. absurd (omega (arith, left, some, marked.clear (place / 64) none)))
    (λ none. absurd (omega (arith, none, some)))

-- ---- the least member

-- no member stands before the first one of the first marked word
pub none_before : (words marks : List ℕ) (word place : ℕ) → AreMarked words marks
    → ((w : ℕ) → w < word → has marks w ≡ 0) → IsFirstOf words word place → (other : ℕ) → other < place → has words other ≡ 0
none_before words marks word place marked unmarked found other before =
    elim (cases_eq (other / 64) word) [
      | inl same ↦ found.first other same before
      | inr differs ↦ no_bit words other (marked.clear (other / 64) (unmarked (other / 64) (omega (arith, found.at, before, differs))))
    ]

module _ (words groups top : List ℕ) (levels : AreLevels words groups top) where
  pub none_clear : get_or top 0 0 ≡ 0 → (slot : ℕ) → has words slot ≡ 0
  none_clear none slot =
      let no_group = λ (g : ℕ). no_bit top g (none_at (g / 64)) in
      no_bit words slot (levels.lower.clear (slot / 64) (no_bit groups (slot / 64) (levels.upper.clear (slot / 64 / 64) (no_group (slot / 64 / 64)))))
    where
      none_at : (w : ℕ) → get_or top w 0 ≡ 0
      none_at w =
          elim (cases_eq w 0) [
            | inl same ↦ rw same none
            | inr differs ↦ get_or_past top w 0 (omega (arith, levels.top_length))
          ]

  pub least_is : (group word slot : ℕ) → IsFirstOf top 0 group → IsFirstOf groups group word → IsFirstOf words word slot → IsLeast words slot
  least_is group word slot first second third =
      let group_before : (g : ℕ) → g < group → has top g ≡ 0 = λ g before. first.first g (omega (arith, first.at, before)) before in
      let word_before = none_before groups top group word levels.upper group_before second in
      let slot_before = none_before words groups word slot levels.lower word_before third in
      let within = some_within words word (marked_some words groups word levels.lower second.member) in
      record {
        within = omega (arith, third.at, within, levels.words_length);
        member = third.member;
        first = slot_before;
      }

-- ---- the empty set

zero_in : (n i : ℕ) → ◌≡◌ {A = ℕ} (get_or (replicate n 0) i 0) 0
zero_in zero i = refl
zero_in (suc n) zero = refl
zero_in (suc n) (suc i) = zero_in n i

pub all_zero : (words : List ℕ) (n : ℕ) → words ≡ replicate n 0 → (i : ℕ) → get_or words i 0 ≡ 0
all_zero words n same i = ap (λ (l : List ℕ). get_or l i 0) same ∙ zero_in n i

pub marked_zeros : (words marks : List ℕ) → ((i : ℕ) → get_or words i 0 ≡ 0) → ((i : ℕ) → get_or marks i 0 ≡ 0) → AreMarked words marks
marked_zeros words marks none no_marks = record {
  clear = λ w bit. none w;
  unmarked = λ w clear. no_bit marks w (no_marks (w / 64));
}

pub none_of_zeros : (words : List ℕ) → ((i : ℕ) → get_or words i 0 ≡ 0) → (slot : ℕ) → has words slot ≡ 0
none_of_zeros words none slot = no_bit words slot (none (slot / 64))
