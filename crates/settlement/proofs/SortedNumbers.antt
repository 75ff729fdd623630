-- That sorted numbers are the ascending ones.
use Rattle.std.proofs.Common.{◌≡◌, inl, inr, ℕ, suc, ◌+◌, ◌<◌, ◌≤◌, true, false, cond, List, [], ◌∷◌, get_or, refl, sym, ap, subst, ◌∙◌, arith}
use Rattle.std.specs.Prelude.{◌==◌, nat_le, sum_by}
use Rattle.std.specs.List.Sorted.{IsPermutation, IsSorted}
use Rattle.std.specs.Ordering.{nat_cmp, is_lt, MatchOrdering}
use Rattle.std.specs.declared.cmp.Ordering.TheVariants.{Less, Equal, Greater}
use Rattle.std.specs.Cmp.{ranks}
use Rattle.std.proofs.lemmas.Bool.{cases_eq, eq-eqb, ne_eqb, leb-true, leb-false, true≢false}
use Rattle.std.proofs.lemmas.List.Sums.{sum_by-cons}
use Rattle.std.proofs.lemmas.List.Sorted.{sum_by-IsPermutation}
use Rattle.machine_model.specs.Events.{ascending, put_ascending}
use Rattle.machine_model.proofs.Numbered.{ascending-weighs}
use Rattle.machine_model.proofs.Tally.{Each, bit, many, tally}

-- each number is no greater than those behind it
abbrev Up : List ℕ → Type 0
Up [] = Unit {0}
Up (x ∷ xs) = Each (λ y. x ≤ y) xs × Up xs

each_least : (m n : ℕ) (xs : List ℕ) → m ≤ n → Each (λ y. n ≤ y) xs → Each (λ y. m ≤ y) xs
each_least m n [] le h = tt
each_least m n (x ∷ xs) le h = (omega (arith, h.0), each_least m n xs le h.1)

put_least : (m n : ℕ) (xs : List ℕ) → m ≤ n → Each (λ y. m ≤ y) xs → Each (λ y. m ≤ y) (put_ascending n xs)
put_least m n [] le h = (le, tt)
put_least m n (x ∷ xs) le h =
    elim (nat_le n x) as (λ b. Each (λ y. m ≤ y) (cond b (n ∷ x ∷ xs) (x ∷ put_ascending n xs))) [
      | true ↦ (le, (h.0, h.1))
      | false ↦ (h.0, put_least m n xs le h.1)
    ]

put_up : (n : ℕ) (xs : List ℕ) → Up xs → Up (put_ascending n xs)
put_up n [] h = (tt, tt)
put_up n (x ∷ xs) h =
    elim (nat_le n x) as (λ b. nat_le n x ≡ b → Up (cond b (n ∷ x ∷ xs) (x ∷ put_ascending n xs))) [
      | true ↦ λ is. let le = leb-true n x is in ((le, each_least n x xs le h.0), h)
      | false ↦ λ is. let lt = leb-false n x is in (put_least x n xs (omega arith) h.0, put_up n xs h.1)
    ] refl

ascending_up : (xs : List ℕ) → Up (ascending xs)
ascending_up [] = tt
ascending_up (x ∷ xs) = put_up x (ascending xs) (ascending_up xs)

-- one that is counted is no less than the first
counted_least : (m n : ℕ) (xs : List ℕ) → Each (λ y. m ≤ y) xs → 1 ≤ many (λ (k : ℕ). k) n xs → m ≤ n
counted_least m n [] h c = absurd (omega arith)
counted_least m n (x ∷ xs) h c =
    elim (cases_eq x n) [
      | inl e ↦ omega (arith, h.0)
      | inr ne ↦ let none : bit (x == n) ≡ 0 = ap bit (ne_eqb x n ne) in counted_least m n xs h.1 (omega arith)
    ]

here : (x : ℕ) (xs : List ℕ) → many (λ (k : ℕ). k) x (x ∷ xs) ≡ 1 + many (λ (k : ℕ). k) x xs
here x xs = let yes : (x == x) ≡ true = eq-eqb x x refl in rw yes refl

first_least : (x : ℕ) (xs : List ℕ) (n : ℕ) → Up (x ∷ xs) → 1 ≤ many (λ (k : ℕ). k) n (x ∷ xs) → x ≤ n
first_least x xs n up c = counted_least x n (x ∷ xs) (omega arith, up.0) c

-- what has the same numbers, each as often, is the same in this order
same_up : (xs ys : List ℕ) → Up xs → Up ys → ((n : ℕ) → many (λ (k : ℕ). k) n xs ≡ many (λ (k : ℕ). k) n ys) → xs ≡ ys
same_up [] [] up other same = refl
same_up [] (y ∷ ys) up other same = absurd (omega (arith, same y, here y ys))
same_up (x ∷ xs) [] up other same = absurd (omega (arith, same x, here x xs))
same_up (x ∷ xs) (y ∷ ys) up other same =
    let one : x ≤ y = first_least x xs y up (omega (arith, same y, here y ys)) in
    let back : y ≤ x = first_least y ys x other (omega (arith, same x, here x xs)) in
    let equal : x ≡ y = omega arith in
    let rest : xs ≡ ys = same_up xs ys up.1 other.1 (λ n. omega (arith, same n, ap (λ k. bit (k == n)) equal)) in
    λ i. equal i ∷ rest i

-- ---- from the sort

tally_sum : (w : ℕ → ℕ) (xs : List ℕ) → sum_by w xs ≡ tally w xs
tally_sum w [] = refl
tally_sum w (x ∷ xs) = sum_by-cons w x xs ∙ ap (λ n. w x + n) (tally_sum w xs)

not_less : (x y : ℕ) → is_lt (nat_cmp y x) ≡ false → x ≤ y
not_less x y h =
    elim (nat_cmp y x) as (λ r. MatchOrdering r (y < x) (y ≡ x) (x < y) → is_lt r ≡ false → x ≤ y) [
      | Less ↦ λ _ h. absurd (true≢false h)
      | Equal ↦ λ same _. omega arith
      | Greater ↦ λ more _. omega arith
    ] (ranks y x) h

sorted_up : (xs : List ℕ) → IsSorted nat_cmp xs → Up xs
sorted_up [] h = tt
sorted_up (x ∷ []) h = (tt, tt)
sorted_up (x ∷ y ∷ xs) h =
    let rest : Up (y ∷ xs) = sorted_up (y ∷ xs) (λ k d low high.
    let place : suc k + 1 ≡ suc (k + 1) = omega arith in
    subst (λ n. is_lt (nat_cmp (get_or (x ∷ y ∷ xs) n d) (get_or (y ∷ xs) k d)) ≡ false) place (h (suc k) d (omega arith) (omega arith))) in
    let le : x ≤ y = not_less x y (h 0 0 (omega arith) (omega arith)) in
    ((le, each_least x y xs le rest.0), rest)

pub sorted-ascending : (xs ys : List ℕ) → IsPermutation xs ys → IsSorted nat_cmp ys → ys ≡ ascending xs
sorted-ascending xs ys moved sorted =
    same_up ys (ascending xs) (sorted_up ys sorted) (ascending_up xs)
    (λ n. sym (tally_sum (λ m. bit (m == n)) ys) ∙ sum_by-IsPermutation (λ m. bit (m == n)) xs ys moved ∙ tally_sum (λ m. bit (m == n)) xs ∙ sym (ascending-weighs (λ m. bit (m == n)) xs))
