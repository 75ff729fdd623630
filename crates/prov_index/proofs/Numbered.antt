-- Items whose numbers ascend, and a search among them.
use Rattle.std.proofs.Common.{◌≡◌, ℕ, zero, suc, ◌+◌, ◌<◌, ◌≤◌, ◌==◌, false, true, List, [], ◌∷◌, ◌++◌, length, get_or, Less, Equal, Greater, Some, None, Result, Ok, Err, refl, ap, arith}
use Rattle.std.specs.Prelude.{MatchResult}
use Rattle.std.specs.Ordering.{nat_cmp, is_lt, ordering_index, MatchOrdering}
use Rattle.std.specs.Cmp.{ranks, nat_cmp_total}
use Rattle.std.specs.List.{All, AllWithin, HoldsAt}
use Rattle.std.specs.List.Sorted.{IsNonDecreasingBy, IsSearchInRange, IsBinarySearchResult}
use Rattle.std.proofs.lemmas.Bool.{eq-eqb, ne_eqb}
use Rattle.std.proofs.lemmas.List.Elements.{All-nil, All-cons, All-head, All-tail, All-push}
use Rattle.std.proofs.lemmas.List.Sorted.{searchable_from_sorted}
use Rattle.flowfile_record.specs.NumberedItems.{item_of, AscendsByNumber}

less_from : (m n : ℕ) → nat_cmp m n ≡ Less → m < n
less_from m n is = let h = ranks m n in rw is at h

greater_from : (m n : ℕ) → nat_cmp m n ≡ Greater → n < m
greater_from m n is = let h = ranks m n in rw is at h

equal_from : (m n : ℕ) → nat_cmp m n ≡ Equal → m ≡ n
equal_from m n is = let h = ranks m n in rw is at h

not_less : (m n : ℕ) → m < n → is_lt (nat_cmp n m) ≡ false
not_less m n lt =
    elim (nat_cmp n m) as (λ o. MatchOrdering o (n < m) (n ≡ m) (m < n) → is_lt o ≡ false) [
      | Less ↦ λ h. absurd (omega arith)
      | Equal ↦ λ h. refl
      | Greater ↦ λ h. refl
    ] (ranks n m)

module _ {A : Type 0} (number : A → ℕ) where
  -- each number is below all later ones
  rises : (items : List A) (i j : ℕ) (d : A) → AscendsByNumber number items → i < j → j < length items → number (get_or items i d) < number (get_or items j d)
  rises [] i j d up lt within = absurd (omega arith)
  rises (item ∷ items) zero zero d up lt within = absurd (omega arith)
  rises (item ∷ items) zero (suc j) d up lt within = up.0 j d (omega arith)
  rises (item ∷ items) (suc i) zero d up lt within = absurd (omega arith)
  rises (item ∷ items) (suc i) (suc j) d up lt within = rises items i j d up.1 (omega arith) (omega arith)

  comparisons_ascend : (items : List A) (n : ℕ) → AscendsByNumber number items → IsNonDecreasingBy (λ item. ordering_index (nat_cmp (number item) n)) items
  comparisons_ascend items n up =
      searchable_from_sorted nat_cmp_total number items n (λ j d lo within. not_less _ _ (rises items j (j + 1) d up (omega arith) within))

  differs : (item : A) (items : List A) (place n : ℕ) → All (λ later. number item < number later) items → place < length items → HoldsAt (λ later. number later ≡ n) items place → (number item == n) ≡ false
  differs item items place n above within at =
      let lt : number item < number (get_or items place item) = above place item within in
      let is : number (get_or items place item) ≡ n = at item in
      ne_eqb (number item) n (λ e. omega arith)

  pub item_of-at : (items : List A) (place n : ℕ) (d : A) → AscendsByNumber number items → place < length items → HoldsAt (λ item. number item ≡ n) items place → item_of number n items ≡ Some (get_or items place d)
  item_of-at [] place n d up within at = absurd (omega arith)
  item_of-at (item ∷ items) zero n d up within at = let yes : (number item == n) ≡ true = eq-eqb (number item) n (at item) in rw yes
  item_of-at (item ∷ items) (suc place) n d up within at =
      let later : HoldsAt (λ item. number item ≡ n) items place = λ e. at e in
      let no : (number item == n) ≡ false = differs item items place n up.0 (omega arith) later in
      rw no (item_of-at items place n d up.1 (omega arith) later)

  item_of-gap : (items : List A) (place n : ℕ) → place ≤ length items → AllWithin (λ item. nat_cmp (number item) n ≡ Less) items 0 place → AllWithin (λ item. nat_cmp (number item) n ≡ Greater) items place (length items) → item_of number n items ≡ None
  item_of-gap [] place n within before after = refl
  item_of-gap (item ∷ items) zero n within before after =
      let lt : n < number item = greater_from _ _ (after 0 item (omega arith) (omega arith)) in
      let no : (number item == n) ≡ false = ne_eqb (number item) n (λ e. omega arith) in
      rw no (item_of-gap items 0 n (omega arith) (λ k d l h. absurd (omega arith)) (λ k d l h. after (suc k) d (omega arith) (omega arith)))
  item_of-gap (item ∷ items) (suc place) n within before after =
      let lt : number item < n = less_from _ _ (before 0 item (omega arith) (omega arith)) in
      let no : (number item == n) ≡ false = ne_eqb (number item) n (λ e. omega arith) in
      rw no (item_of-gap items place n (omega arith) (λ k d l h. before (suc k) d (omega arith) (omega arith)) (λ k d l h. after (suc k) d (omega arith) (omega arith)))

  -- what a binary search answers
  pub searched : (items : List A) (n : ℕ) (answer : Result ℕ ℕ) → AscendsByNumber number items → IsSearchInRange answer (length items) → IsBinarySearchResult (λ item. nat_cmp (number item) n) items answer
      → MatchResult answer (λ place. (d : A) → item_of number n items ≡ Some (get_or items place d)) (λ _. item_of number n items ≡ None)
  searched items n (Ok place) up within at = λ d. item_of-at items place n d up within (λ e. equal_from _ _ (at e))
  searched items n (Err place) up within sides =
      let by = sides (comparisons_ascend items n up) in
      item_of-gap items place n within by.0 by.1

  -- one more item, of a number above all
  pub ascends-push : (items : List A) (new : A) → AscendsByNumber number items → All (λ item. number item < number new) items → AscendsByNumber number (items ++ new ∷ [])
  ascends-push [] new up below = (All-nil (λ later. number new < number later), tt)
  ascends-push (item ∷ items) new up below = (
    All-push (λ later. number item < number later) items new up.0 (All-head (λ i. number i < number new) item items below),
    ascends-push items new up.1 (All-tail (λ i. number i < number new) item items below),
  )
