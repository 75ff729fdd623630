-- What the pairs of a map count together, where one is put or left out.
use Rattle.std.proofs.Common.{◌≡◌, ℕ, ◌+◌, Bool, true, false, cond, not, ◌&&◌, List, [], ◌∷◌, sum_by, Ordering, Less, Equal, Greater, Option, Some, None, refl, sym, ◌∙◌, ap, subst, arith}
use lib.Dec.{T}
use Rattle.std.specs.Ordering.{is_lt, is_eq, eq_by_cmp}
use Rattle.std.specs.Cmp.{IsTotalOrder}
use Rattle.std.proofs.lemmas.List.Sums.{sum_by-cons}
use Rattle.std.specs.FinMap.{IsAntisymmetric}
use Rattle.std.specs.FinMap.Entries.{below_all, by_order, find, put, where_key, is_sorted}

left : (a b : Bool) → T (a && b) → T a
left true b h = tt
left false b h = h

right : (a b : Bool) → T (a && b) → T b
right true b h = h
right false b h = absurd h

both : (a b : Bool) → T a → T b → T (a && b)
both true b p q = q
both false b p q = p

less : (r : Ordering) → T (is_lt r) → r ≡ Less
less Less h = refl
less Equal h = absurd h
less Greater h = absurd h

equal : (r : Ordering) → T (is_eq r) → r ≡ Equal
equal Less h = absurd h
equal Equal h = refl
equal Greater h = absurd h

-- what the value counts that stands under a key
abbrev pub held : {K X : Type 0} → (K × X → ℕ) → K → Option X → ℕ
held f k None = 0
held f k (Some v) = f (k, v)

module _ {K X : Type 0} {R : K → K → Ordering} (o : IsTotalOrder R) where
  below_less : (x y : K) (es : List (K × X)) → R x y ≡ Less → T (below_all R y es) → T (below_all R x es)
  below_less x y [] p h = tt
  below_less x y (e ∷ es) p h = both _ _ (subst (λ r. T (is_lt r)) (sym (o.trans x y e.0 p (less _ (left _ _ h)))) tt) (below_less x y es p (right _ _ h))

  below_tied : (x y : K) (es : List (K × X)) → R x y ≡ Equal → T (below_all R y es) → T (below_all R x es)
  below_tied x y [] p h = tt
  below_tied x y (e ∷ es) p h = both _ _ (subst (λ r. T (is_lt r)) (sym (o.congr x y e.0 p)) (left _ _ h)) (below_tied x y es p (right _ _ h))

  find_below : (q : K) (es : List (K × X)) → T (below_all R q es) → find R q es ≡ None
  find_below q [] h = refl
  find_below q (e ∷ es) h = ap (λ r. cond (is_eq r) (Some e.1) (find R q es)) (less _ (left _ _ h)) ∙ find_below q es (right _ _ h)

  module _ (same : IsAntisymmetric R) (f : K × X → ℕ) where
    pub sum-put : (k : K) (v : X) (es : List (K × X)) → T (is_sorted R es) → sum_by f (put R k v es) + held f k (find R k es) ≡ sum_by f es + f (k, v)
    sum-put k v [] h = omega arith
    sum-put k v (e ∷ es) h =
        let rest : sum_by f (put R k v es) + held f k (find R k es) ≡ sum_by f es + f (k, v) = sum-put k v es (right _ _ h) in
        elim (R k e.0) as (λ r. R k e.0 ≡ r → sum_by f (by_order r ((k, v) ∷ e ∷ es) ((e.0, v) ∷ es) (e ∷ put R k v es)) + held f k (cond (is_eq r) (Some e.1) (find R k es)) ≡ sum_by f (e ∷ es) + f (k, v)) [
          | Less ↦ λ p.
              let gone : find R k es ≡ None = find_below k es (below_less k e.0 es p (left _ _ h)) in
              let none : held f k (find R k es) ≡ 0 = ap (held f k) gone in
              let all : sum_by f ((k, v) ∷ e ∷ es) + held f k (find R k es) ≡ sum_by f (e ∷ es) + f (k, v) = omega (arith, sum_by-cons f (k, v) (e ∷ es), none) in
              all
          | Equal ↦ λ p.
              let key : k ≡ e.0 = same _ _ p in
              let here : f (k, e.1) ≡ f e = ap (λ q. f (q, e.1)) key in
              let new : f (k, v) ≡ f (e.0, v) = ap (λ q. f (q, v)) key in
              let all : sum_by f ((e.0, v) ∷ es) + f (k, e.1) ≡ sum_by f (e ∷ es) + f (k, v) = omega (arith, sum_by-cons f (e.0, v) es, sum_by-cons f e es, here, new) in
              all
          | Greater ↦ λ p.
              let all : sum_by f (e ∷ put R k v es) + held f k (find R k es) ≡ sum_by f (e ∷ es) + f (k, v) = omega (arith, sum_by-cons f e (put R k v es), sum_by-cons f e es, rest) in
              all
        ] refl

    pub sum-without : (k : K) (es : List (K × X)) → T (is_sorted R es) → sum_by f (where_key R (λ x. not (eq_by_cmp R k x)) es) + held f k (find R k es) ≡ sum_by f es
    sum-without k [] h = refl
    sum-without k (e ∷ es) h =
        let kept = where_key R (λ x. not (eq_by_cmp R k x)) es in
        let rest : sum_by f kept + held f k (find R k es) ≡ sum_by f es = sum-without k es (right _ _ h) in
        elim (eq_by_cmp R k e.0) as (λ t. eq_by_cmp R k e.0 ≡ t → sum_by f (cond (not t) (e ∷ kept) kept) + held f k (cond t (Some e.1) (find R k es)) ≡ sum_by f (e ∷ es)) [
          | true ↦ λ t.
              let tied : R k e.0 ≡ Equal = equal _ (subst T (sym t) tt) in
              let gone : find R k es ≡ None = find_below k es (below_tied k e.0 es tied (left _ _ h)) in
              let none : held f k (find R k es) ≡ 0 = ap (held f k) gone in
              let here : f (k, e.1) ≡ f e = ap (λ q. f (q, e.1)) (same _ _ tied) in
              let all : sum_by f kept + f (k, e.1) ≡ sum_by f (e ∷ es) = omega (arith, sum_by-cons f e es, rest, none, here) in
              all
          | false ↦ λ t.
              let all : sum_by f (e ∷ kept) + held f k (find R k es) ≡ sum_by f (e ∷ es) = omega (arith, sum_by-cons f e kept, sum_by-cons f e es, rest) in
              all
        ] refl
