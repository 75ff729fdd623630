-- That many items, sorted by their numbers among those that were there, stand as if they had joined one by one.
use Rattle.std.proofs.Common.{◌≡◌, ◌≢◌, ℕ, zero, suc, ◌+◌, ◌<◌, ◌≤◌, ◌==◌, nat_lt, true, false, cond, List, [], ◌∷◌, ◌++◌, length, get_or, All, refl, sym, ap, ◌∙◌, subst, arith}
use Rattle.std.specs.Prelude.{sum_by}
use Rattle.std.specs.List.{Contains}
use Rattle.std.specs.List.Sorted.{IsPermutation, IsSortedByKey}
use Rattle.std.specs.Ordering.{nat_cmp, is_lt, MatchOrdering}
use Rattle.std.specs.declared.cmp.Ordering.TheVariants.{Less, Equal, Greater}
use Rattle.std.specs.Cmp.{ranks}
use Rattle.std.proofs.lemmas.Bool.{eq-eqb, ne_eqb, true≢false}
use Rattle.std.proofs.lemmas.List.Elements.{All-nil, All-cons, All-head, All-tail, All-append, All-contains_itself}
use Rattle.std.proofs.lemmas.List.Sums.{sum_by-cons}
use Rattle.std.proofs.lemmas.List.Sorted.{All-permutation, sum_by-IsPermutation}
use Rattle.flowfile_record.specs.NumberedItems.{with_item, with_items, AreNew, AscendsByNumber}
use Rattle.flowfile_record.proofs.ByNumber.{ascends-with_items}

not_less : (x y : ℕ) → is_lt (nat_cmp y x) ≡ false → x ≤ y
not_less x y h =
    elim (nat_cmp y x) as (λ r. MatchOrdering r (y < x) (y ≡ x) (x < y) → is_lt r ≡ false → x ≤ y) [
      | Less ↦ λ _ h. absurd (true≢false h)
      | Equal ↦ λ same _. omega arith
      | Greater ↦ λ more _. omega arith
    ] (ranks y x) h

module _ {X : Type 0} (number : X → ℕ) where
  -- each number is no greater than those behind it
  abbrev Rise : List X → Type 0
  Rise [] = Unit {0}
  Rise (x ∷ xs) = All (λ later. number x ≤ number later) xs × Rise xs

  rise : (xs : List X) → IsSortedByKey number nat_cmp xs → Rise xs
  rise [] h = tt
  rise (x ∷ []) h = (All-nil (λ later. number x ≤ number later), tt)
  rise (x ∷ y ∷ xs) h =
      let rest : Rise (y ∷ xs) = rise (y ∷ xs) (λ k d low high.
      let place : suc k + 1 ≡ suc (k + 1) = omega arith in
      subst (λ n. is_lt (nat_cmp (number (get_or (x ∷ y ∷ xs) n d)) (number (get_or (y ∷ xs) k d))) ≡ false) place (h (suc k) d (omega arith) (omega arith))) in
      let le : number x ≤ number y = not_less (number x) (number y) (h 0 x (omega arith) (omega arith)) in
      (All-cons (λ later. number x ≤ number later) y xs le (λ k d lt. let h = rest.0 k d lt in omega arith), rest)

  -- how many have a number
  abbrev count : ℕ → List X → ℕ
  count n [] = 0
  count n (x ∷ xs) = cond (number x == n) 1 0 + count n xs

  count-sum : (n : ℕ) (xs : List X) → sum_by (λ x. cond (number x == n) 1 0) xs ≡ count n xs
  count-sum n [] = refl
  count-sum n (x ∷ xs) = sum_by-cons (λ x. cond (number x == n) 1 0) x xs ∙ ap (λ k. cond (number x == n) 1 0 + k) (count-sum n xs)

  hit : (n : ℕ) (x : X) (xs : List X) → number x ≡ n → count n (x ∷ xs) ≡ 1 + count n xs
  hit n x xs is = let yes : (number x == n) ≡ true = eq-eqb (number x) n is in rw yes refl

  miss : (n : ℕ) (x : X) (xs : List X) → number x ≢ n → count n (x ∷ xs) ≡ count n xs
  miss n x xs isnt = let no : (number x == n) ≡ false = ne_eqb (number x) n isnt in rw no (omega arith)

  none_counted : (n : ℕ) (xs : List X) → All (λ later. n < number later) xs → count n xs ≡ 0
  none_counted n [] above = refl
  none_counted n (x ∷ xs) above =
      let first = All-head (λ later. n < number later) x xs above in
      miss n x xs (λ e. absurd (omega arith)) ∙ none_counted n xs (All-tail (λ later. n < number later) x xs above)

  some_counted : (n : ℕ) (xs : List X) (i : ℕ) (d : X) → i < length xs → number (get_or xs i d) ≡ n → 1 ≤ count n xs
  some_counted n [] i d lt is = absurd (omega arith)
  some_counted n (x ∷ xs) zero d lt is = omega (arith, hit n x xs is)
  some_counted n (x ∷ xs) (suc i) d lt is = omega (arith, some_counted n xs i d (omega arith) is)

  -- ---- what has the same items, each number in its turn, is the same list

  same_first : (x y : X) (xs ys : List X) → AscendsByNumber number (x ∷ xs) → Rise (y ∷ ys) → count (number x) (y ∷ ys) ≡ count (number x) (x ∷ xs) → Contains (x ∷ xs) y → y ≡ x
  same_first x y xs ys up low same (zero, lt, is) = sym is
  same_first x y xs ys up low same (suc k, lt, is) =
      let above : number x < number y = subst (λ z. number x < number z) is (up.0 k y (omega arith)) in
      let none = none_counted (number x) (y ∷ ys) (All-cons (λ later. number x < number later) y ys above (λ i d lt. let le = low.0 i d lt in omega arith)) in
      absurd (omega (arith, same, none, hit (number x) x xs refl))

  in_rest : (x z : X) (xs ys : List X) → count (number x) ys ≡ 0 → (i : ℕ) (d : X) → i < length ys → z ≡ get_or ys i d → Contains (x ∷ xs) z → Contains xs z
  in_rest x z xs ys none i d lt at (zero, low, is) = absurd (omega (arith, none, some_counted (number x) ys i d lt (ap number (sym at ∙ sym is))))
  in_rest x z xs ys none i d lt at (suc k, low, is) = (k, omega arith, is)

  same_order : (xs ys : List X) → AscendsByNumber number xs → Rise ys → ((n : ℕ) → count n ys ≡ count n xs) → All (Contains xs) ys → ys ≡ xs
  same_order [] [] up low same within = refl
  same_order [] (y ∷ ys) up low same within = absurd (omega (arith, same (number y), hit (number y) y ys refl))
  same_order (x ∷ xs) [] up low same within = absurd (omega (arith, same (number x), hit (number x) x xs refl))
  same_order (x ∷ xs) (y ∷ ys) up low same within =
      let first : y ≡ x = same_first x y xs ys up low (same (number x)) (All-head (Contains (x ∷ xs)) y ys within) in
      let rest : (n : ℕ) → count n ys ≡ count n xs = λ n. omega (arith, same n, ap {B = ℕ} (λ (z : X). cond (number z == n) 1 0) first) in
      let none : count (number x) ys ≡ 0 = rest (number x) ∙ none_counted (number x) xs up.0 in
      let others : ys ≡ xs = same_order xs ys up.1 low.1 rest
      (λ i d lt. in_rest x (get_or ys i d) xs ys none i d lt refl (All-tail (Contains (x ∷ xs)) y ys within i d lt)) in
      λ i. first i ∷ others i

  -- ---- items that join

  count-append : (n : ℕ) (xs ys : List X) → count n (xs ++ ys) ≡ count n xs + count n ys
  count-append n [] ys = omega arith
  count-append n (x ∷ xs) ys = omega (arith, count-append n xs ys)

  count-with : (n : ℕ) (a : X) (xs : List X) → count n (with_item number a xs) ≡ count n (a ∷ xs)
  count-with n a [] = refl
  count-with n a (x ∷ xs) =
      elim (nat_lt (number x) (number a)) as (λ b. count n (cond b (x ∷ with_item number a xs) (a ∷ x ∷ xs)) ≡ count n (a ∷ x ∷ xs)) [
        | true ↦ omega (arith, count-with n a xs)
        | false ↦ refl
      ]

  count-with_items : (n : ℕ) (news xs : List X) → count n (with_items number news xs) ≡ count n (xs ++ news)
  count-with_items n [] xs = omega (arith, count-append n xs [])
  count-with_items n (a ∷ news) xs =
      omega (arith, count-with_items n news (with_item number a xs), count-append n (with_item number a xs) news, count-with n a xs, count-append n xs (a ∷ news))

  behind : (x z : X) (xs : List X) → Contains xs z → Contains (x ∷ xs) z
  behind x z xs (k, lt, is) = (suc k, omega arith, is)

  new_there : (a : X) (xs : List X) → Contains (with_item number a xs) a
  new_there a [] = (0, omega arith, refl)
  new_there a (x ∷ xs) =
      elim (nat_lt (number x) (number a)) as (λ b. Contains (cond b (x ∷ with_item number a xs) (a ∷ x ∷ xs)) a) [
        | true ↦ behind x a (with_item number a xs) (new_there a xs)
        | false ↦ (0, omega arith, refl)
      ]

  old_there : (a z : X) (xs : List X) → Contains xs z → Contains (with_item number a xs) z
  old_there a z [] (k, lt, is) = absurd (omega arith)
  old_there a z (x ∷ xs) (zero, lt, is) =
      elim (nat_lt (number x) (number a)) as (λ b. Contains (cond b (x ∷ with_item number a xs) (a ∷ x ∷ xs)) z) [
        | true ↦ (0, omega arith, is)
        | false ↦ (1, omega arith, is)
      ]
  old_there a z (x ∷ xs) (suc k, lt, is) =
      elim (nat_lt (number x) (number a)) as (λ b. Contains (cond b (x ∷ with_item number a xs) (a ∷ x ∷ xs)) z) [
        | true ↦ behind x z (with_item number a xs) (old_there a z xs (k, omega arith, is))
        | false ↦ behind a z (x ∷ xs) (suc k, lt, is)
      ]

  olds_there : (news xs : List X) (z : X) → Contains xs z → Contains (with_items number news xs) z
  olds_there [] xs z there = there
  olds_there (a ∷ news) xs z there = olds_there news (with_item number a xs) z (old_there a z xs there)

  news_there : (news xs : List X) → All (Contains (with_items number news xs)) news
  news_there [] xs = All-nil (Contains xs)
  news_there (a ∷ news) xs =
      All-cons (Contains (with_items number news (with_item number a xs))) a news (olds_there news (with_item number a xs) a (new_there a xs)) (news_there news (with_item number a xs))

  pub sorted_joins : (news xs ys : List X) → AscendsByNumber number xs → AreNew number news xs → IsPermutation (xs ++ news) ys → IsSortedByKey number nat_cmp ys → ys ≡ with_items number news xs
  sorted_joins news xs ys ascends new moved sorted =
      let joined = with_items number news xs in
      same_order joined ys (ascends-with_items number news xs new ascends) (rise ys sorted)
      (λ n. sym (count-sum n ys) ∙ sum_by-IsPermutation (λ x. cond (number x == n) 1 0) (xs ++ news) ys moved ∙ count-sum n (xs ++ news) ∙ sym (count-with_items n news xs))
      (All-permutation (Contains joined) (xs ++ news) ys moved
      (All-append (Contains joined) xs news (λ k d lt. olds_there news xs (get_or xs k d) (All-contains_itself xs k d lt)) (news_there news xs)))
