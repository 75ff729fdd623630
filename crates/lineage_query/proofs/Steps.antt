-- What files cost together: files that differ cost no more than a list that has them all.
use Rattle.std.proofs.Common.{◌≡◌, ℕ, ◌+◌, ◌<◌, ◌≤◌, ◌==◌, not, Bool, true, false, cond, List, [], ◌∷◌, length, ◌⊎◌, inl, inr, refl, sym, ap, subst, ◌∙◌, arith}
use lib.Dec.{eqb}
use Rattle.std.specs.Prelude.{filter}
use Rattle.std.specs.List.{sum_by, All, AllByRecursion, IsDistinct}
use Rattle.std.proofs.lemmas.Bool.{eqb-true, eq-eqb}
use Rattle.std.proofs.lemmas.List.Elements.{All-from_recursion, All-contains}
use Rattle.std.proofs.lemmas.List.Sums.{sum_by-cons}
use Rattle.std.proofs.lemmas.Map.Keys.{IsDistinct-head, IsDistinct-tail}
use Rattle.lineage_query.proofs.Members.{Among, to-contains, in-filter}

abbrev without : ℕ → List ℕ → List ℕ
without x ys = filter (λ y. not (x == y)) ys

module _ (f : ℕ → ℕ) where
  sum-filter : (p : ℕ → Bool) (ys : List ℕ) → sum_by f (filter p ys) ≤ sum_by f ys
  sum-filter p [] = omega arith
  sum-filter p (y ∷ ys) =
      let rest = sum-filter p ys in
      elim (p y) as (λ b. sum_by f (cond b (y ∷ filter p ys) (filter p ys)) ≤ sum_by f (y ∷ ys)) [
        | true ↦ omega (arith, rest, sum_by-cons f y (filter p ys), sum_by-cons f y ys)
        | false ↦ omega (arith, rest, sum_by-cons f y ys)
      ]

  sum-without : (x : ℕ) (ys : List ℕ) → Among x ys → f x + sum_by f (without x ys) ≤ sum_by f ys
  sum-without x [] a = absurd a
  sum-without x (y ∷ ys) a =
      let kept = sum-filter (λ y. not (x == y)) ys in
      let all = sum_by-cons f y ys in
      elim (x == y) as (λ b. (x == y) ≡ b → f x + sum_by f (cond (not b) (y ∷ without x ys) (without x ys)) ≤ sum_by f (y ∷ ys)) [
        | true ↦ λ same. let is : f x ≡ f y = ap f (eqb-true x y same) in omega (arith, kept, all, is)
        | false ↦ λ other.
            let rest : f x + sum_by f (without x ys) ≤ sum_by f ys = sum-without x ys (elim a [ inl is ↦ absurd (let equal = eq-eqb x y (sym is) in cc) | inr b ↦ b ]) in
            omega (arith, rest, all, sum_by-cons f y (without x ys))
      ] refl

  pub distinct-le : (xs ys : List ℕ) → IsDistinct eqb xs → ((o : ℕ) → Among o xs → Among o ys) → sum_by f xs ≤ sum_by f ys
  distinct-le [] ys apart all = omega arith
  distinct-le (x ∷ xs) ys apart all =
      let Other : ℕ → Type 0 = λ o. eqb x o ≡ false in
      let others = All-from_recursion Other xs (IsDistinct-head eqb x xs apart) in
      let rest = distinct-le xs (without x ys) (IsDistinct-tail eqb x xs apart) (λ o a. in-filter (λ y. not (x == y)) o ys (all o (inr a)) (ap not (All-contains Other xs o others (to-contains o xs a)))) in
      omega (arith, sum_by-cons f x xs, sum-without x ys (all x (inl refl)), rest)

ones : (xs : List ℕ) → sum_by (λ _. 1) xs ≡ length xs
ones [] = refl
ones (x ∷ xs) = omega (arith, sum_by-cons (λ (_ : ℕ). 1) x xs, ones xs)

pub distinct-length-le : (xs ys : List ℕ) → IsDistinct eqb xs → ((o : ℕ) → Among o xs → Among o ys) → length xs ≤ length ys
distinct-length-le xs ys apart all = omega (arith, distinct-le (λ _. 1) xs ys apart all, ones xs, ones ys)
