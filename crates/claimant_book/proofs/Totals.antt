-- Totals over a list of views that changes at one place.
use Rattle.std.proofs.Common.{◌≡◌, ◌≢◌, ℕ, zero, suc, ◌+◌, ◌*◌, ◌≤◌, List, [], ◌∷◌, ◌++◌, set, refl, sym, ap, arith}
use mathlib.Core.Option.{some, some-injective, some-ne-none}
use lib.ListN.{get_elem?}
use Rattle.claimant_book.specs.declared.view.View.{View}
use Rattle.claimant_book.specs.Kept.{total_over}

module _ (f : View → ℕ) where
  pub total-set : (l : List View) (j : ℕ) (v w : View) → get_elem? l j ≡ some v → total_over f (set l j w) + f v ≡ total_over f l + f w
  total-set [] j v w e = absurd (some-ne-none v (sym e))
  total-set (x ∷ xs) zero v w e = omega (arith, ap f (some-injective x v e))
  total-set (x ∷ xs) (suc j) v w e = omega (arith, total-set xs j v w e)

  pub total-snoc : (l : List View) (w : View) → total_over f (l ++ w ∷ []) ≡ total_over f l + f w
  total-snoc [] w = omega arith
  total-snoc (x ∷ xs) w = omega (arith, total-snoc xs w)

  pub term_le : (l : List View) (j : ℕ) (v : View) → get_elem? l j ≡ some v → f v ≤ total_over f l
  term_le [] j v e = absurd (some-ne-none v (sym e))
  term_le (x ∷ xs) zero v e = omega (arith, ap f (some-injective x v e))
  term_le (x ∷ xs) (suc j) v e = omega (arith, term_le xs j v e)

  pub terms_le : (l : List View) (j k : ℕ) (v u : View) → k ≢ j → get_elem? l j ≡ some v → get_elem? l k ≡ some u → f v + f u ≤ total_over f l
  terms_le [] j k v u n e d = absurd (some-ne-none v (sym e))
  terms_le (x ∷ xs) zero zero v u n e d = absurd (n refl)
  terms_le (x ∷ xs) zero (suc k) v u n e d = omega (arith, ap f (some-injective x v e), term_le xs k u d)
  terms_le (x ∷ xs) (suc j) zero v u n e d = omega (arith, ap f (some-injective x u d), term_le xs j v e)
  terms_le (x ∷ xs) (suc j) (suc k) v u n e d = omega (arith, terms_le xs j k v u (λ h. n (ap suc h)) e d)

  total-none : (l : List View) → ((k : ℕ) (u : View) → get_elem? l k ≡ some u → f u ≡ 0) → total_over f l ≡ 0
  total-none [] h = refl
  total-none (x ∷ xs) h = omega (arith, h zero x refl, total-none xs (λ k u e. h (suc k) u e))

  -- the others add nothing
  pub total-alone : (l : List View) (j : ℕ) (v : View) → get_elem? l j ≡ some v → ((k : ℕ) (u : View) → k ≢ j → get_elem? l k ≡ some u → f u ≡ 0) → total_over f l ≡ f v
  total-alone [] j v e h = absurd (some-ne-none v (sym e))
  total-alone (x ∷ xs) zero v e h = omega (arith, ap f (some-injective x v e), total-none xs (λ k u d. h (suc k) u (λ z. omega arith) d))
  total-alone (x ∷ xs) (suc j) v e h = omega (arith, h zero x (λ z. omega arith) refl, total-alone xs j v e (λ k u n d. h (suc k) u (λ z. n (omega arith)) d))

module _ (f g h : View → ℕ) where
  -- each adds at most the most holds where it is of one of two kinds, and else nothing
  pub total-most : (l : List View) → ((k : ℕ) (u : View) → get_elem? l k ≡ some u → f u ≤ 67108864 * (g u + h u)) → total_over f l ≤ 67108864 * (total_over g l + total_over h l)
  total-most [] e = omega arith
  total-most (x ∷ xs) e = omega (arith, e zero x refl, total-most xs (λ k u d. e (suc k) u d))
