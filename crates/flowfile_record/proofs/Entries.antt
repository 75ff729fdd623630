-- Lists of entries whose keys rise, at the place of a key.
use Rattle.std.proofs.Common.{◌≡◌, ℕ, zero, suc, ◌+◌, ◌<◌, ◌≤◌, Bool, true, false, cond, not, ◌&&◌, List, [], ◌∷◌, length, get_or, set, Ordering, Less, Equal, Greater, Some, None, refl, sym, ◌∙◌, ap, subst, arith}
use lib.Dec.{T}
use Rattle.std.specs.Ordering.{ordering_reverse, ordering_index, is_lt, eq_by_cmp}
use Rattle.std.specs.Cmp.{IsTotalOrder, alike_right, tied_itself, eq_by_cmp_equiv}
use Rattle.std.specs.List.{All, AllWithin, HoldsAt, insert, remove}
use Rattle.std.specs.List.Sorted.{IsNonDecreasingBy}
use Rattle.std.specs.FinMap.{IsAntisymmetric, from_sorted, get, retain_keys, entries-from_sorted, get-from_sorted, entries-insert, same_entries_map, same_map, get-retain_keys, get-remove}
use Rattle.std.specs.FinMap as finite
use Rattle.std.specs.FinMap.Entries.{below_all, by_order, find, put, where_key, is_sorted, is_sorted-put, is_sorted-where_key, find-where_key}
use Rattle.std.proofs.lemmas.List.{get_or_default}
use Rattle.std.proofs.lemmas.List.Elements.{All-cons, All-head, All-tail}
use Rattle.std.proofs.lemmas.List.Sorted.{searchable_from_sorted}

left : (a b : Bool) → T (a && b) → T a
left true b h = tt
left false b h = h

right : (a b : Bool) → T (a && b) → T b
right true b h = h
right false b h = absurd h

less : (r : Ordering) → T (is_lt r) → r ≡ Less
less Less h = refl
less Equal h = absurd h
less Greater h = absurd h

opposite : {A : Type 0} (b : Bool) (x y : A) → cond b x y ≡ cond (not b) y x
opposite true x y = refl
opposite false x y = refl

pub T-from : (b : Bool) → b ≡ true → T b
T-from b e = subst T (sym e) tt

pub T-to : (b : Bool) → T b → b ≡ true
T-to true h = refl
T-to false h = absurd h

module _ {K : Type 0} {R : K → K → Ordering} (o : IsTotalOrder R) where
  turned : (x y : K) (r : Ordering) → R x y ≡ r → R y x ≡ ordering_reverse r
  turned x y r e = o.antisymm y x ∙ ap ordering_reverse e

module _ {K X : Type 0} {R : K → K → Ordering} (o : IsTotalOrder R) where
  -- a key below all is below each
  below_each : (k : K) (es : List (K × X)) (j : ℕ) (d : K × X) → T (below_all R k es) → j < length es → R k (get_or es j d).0 ≡ Less
  below_each k [] j d h lt = absurd (omega arith)
  below_each k (f ∷ fs) zero d h lt = less _ (left _ _ h)
  below_each k (f ∷ fs) (suc j) d h lt = below_each k fs j d (right _ _ h) (omega arith)

  pub rises : (es : List (K × X)) (i j : ℕ) (d : K × X) → T (is_sorted R es) → i < j → j < length es → R (get_or es i d).0 (get_or es j d).0 ≡ Less
  rises [] i j d h lt within = absurd (omega arith)
  rises (e ∷ es) zero zero d h lt within = absurd (omega arith)
  rises (e ∷ es) zero (suc j) d h lt within = below_each e.0 es j d (left _ _ h) (omega arith)
  rises (e ∷ es) (suc i) zero d h lt within = absurd (omega arith)
  rises (e ∷ es) (suc i) (suc j) d h lt within = rises es i j d (right _ _ h) (omega arith) (omega arith)

  -- so its comparisons with a key rise too, as a binary search asks
  pub comparisons_rise : (es : List (K × X)) (k : K) → T (is_sorted R es) → IsNonDecreasingBy (λ e. ordering_index (R e.0 k)) es
  comparisons_rise es k h = searchable_from_sorted o (λ e. e.0) es k (λ j d lo within. ap is_lt (turned o _ _ Less (rises es j (j + 1) d h (omega arith) within)))

  -- around a key that is there stand lesser and greater ones
  pub around : (k : K) (es : List (K × X)) (i : ℕ) → T (is_sorted R es) → i < length es → HoldsAt (λ e. R e.0 k ≡ Equal) es i → AllWithin (λ e. R e.0 k ≡ Less) es 0 i × AllWithin (λ e. R e.0 k ≡ Greater) es (i + 1) (length es)
  around k es i h within at =
      (λ j d lo hi. sym (alike_right o _ _ _ (at d)) ∙ rises es j i d h hi within, λ j d lo hi. turned o _ _ Less (sym (o.congr _ _ _ (at d)) ∙ rises es i j d h (omega arith) hi))

  -- a new key goes into its gap
  pub put_in_gap : (k : K) (v : X) (es : List (K × X)) (i : ℕ) → i ≤ length es → AllWithin (λ e. R e.0 k ≡ Less) es 0 i → AllWithin (λ e. R e.0 k ≡ Greater) es i (length es) → put R k v es ≡ insert es i (k, v)
  put_in_gap k v [] zero le before after = refl
  put_in_gap k v [] (suc i) le before after = absurd (omega arith)
  put_in_gap k v (e ∷ es) zero le before after = rw (turned o _ _ Greater (after 0 e (omega arith) (omega arith)))
  put_in_gap k v (e ∷ es) (suc i) le before after =
      rw (turned o _ _ Less (before 0 e (omega arith) (omega arith))) (ap (λ l. e ∷ l) (put_in_gap k v es i (omega arith) (λ j d lo hi. before (suc j) d (omega arith) (omega arith)) (λ j d lo hi. after (suc j) d (omega arith) (omega arith))))

  -- a key that is there gets its value in place
  pub put_at : IsAntisymmetric R → (k : K) (v : X) (es : List (K × X)) (i : ℕ) → i < length es → AllWithin (λ e. R e.0 k ≡ Less) es 0 i → HoldsAt (λ e. R e.0 k ≡ Equal) es i → put R k v es ≡ set es i (k, v)
  put_at same k v [] i lt before at = absurd (omega arith)
  put_at same k v (e ∷ es) zero lt before at = rw (turned o _ _ Equal (at e)) (ap (λ q. (q, v) ∷ es) (same _ _ (at e)))
  put_at same k v (e ∷ es) (suc i) lt before at =
      rw (turned o _ _ Less (before 0 e (omega arith) (omega arith))) (ap (λ l. e ∷ l) (put_at same k v es i (omega arith) (λ j d lo hi. before (suc j) d (omega arith) (omega arith)) at))

  keeps_greater : (k : K) (es : List (K × X)) → AllWithin (λ e. R e.0 k ≡ Greater) es 0 (length es) → where_key R (λ x. not (eq_by_cmp R k x)) es ≡ es
  keeps_greater k [] after = refl
  keeps_greater k (e ∷ es) after =
      rw (turned o _ _ Greater (after 0 e (omega arith) (omega arith))) (ap (λ l. e ∷ l) (keeps_greater k es (λ j d lo hi. after (suc j) d (omega arith) (omega arith))))

  -- to leave a key out is to remove its entry
  pub where_key_without : (k : K) (es : List (K × X)) (i : ℕ) → i < length es → AllWithin (λ e. R e.0 k ≡ Less) es 0 i → HoldsAt (λ e. R e.0 k ≡ Equal) es i → AllWithin (λ e. R e.0 k ≡ Greater) es (i + 1) (length es) → where_key R (λ x. not (eq_by_cmp R k x)) es ≡ remove es i
  where_key_without k [] i lt before at after = absurd (omega arith)
  where_key_without k (e ∷ es) zero lt before at after = rw (turned o _ _ Equal (at e)) (keeps_greater k es (λ j d lo hi. after (suc j) d (omega arith) (omega arith)))
  where_key_without k (e ∷ es) (suc i) lt before at after =
      rw (turned o _ _ Less (before 0 e (omega arith) (omega arith))) (ap (λ l. e ∷ l) (where_key_without k es i (omega arith) (λ j d lo hi. before (suc j) d (omega arith) (omega arith)) at (λ j d lo hi. after (suc j) d (omega arith) (omega arith))))

  pub find_in_gap : (k : K) (es : List (K × X)) (i : ℕ) → i ≤ length es → AllWithin (λ e. R e.0 k ≡ Less) es 0 i → AllWithin (λ e. R e.0 k ≡ Greater) es i (length es) → find R k es ≡ None
  find_in_gap k [] i le before after = refl
  find_in_gap k (e ∷ es) zero le before after =
      rw (turned o _ _ Greater (after 0 e (omega arith) (omega arith))) (find_in_gap k es 0 (omega arith) (λ j d lo hi. absurd (omega arith)) (λ j d lo hi. after (suc j) d (omega arith) (omega arith)))
  find_in_gap k (e ∷ es) (suc i) le before after =
      rw (turned o _ _ Less (before 0 e (omega arith) (omega arith))) (find_in_gap k es i (omega arith) (λ j d lo hi. before (suc j) d (omega arith) (omega arith)) (λ j d lo hi. after (suc j) d (omega arith) (omega arith)))

  pub find_at : (k : K) (es : List (K × X)) (i : ℕ) (d : K × X) → i < length es → AllWithin (λ e. R e.0 k ≡ Less) es 0 i → HoldsAt (λ e. R e.0 k ≡ Equal) es i → find R k es ≡ Some (get_or es i d).1
  find_at k [] i d lt before at = absurd (omega arith)
  find_at k (e ∷ es) zero d lt before at = rw (turned o _ _ Equal (at e))
  find_at k (e ∷ es) (suc i) d lt before at =
      rw (turned o _ _ Less (before 0 e (omega arith) (omega arith))) (find_at k es i d (omega arith) (λ j f lo hi. before (suc j) f (omega arith) (omega arith)) at)

  -- each entry of a list in order is found by its key
  pub finds_each : (es : List (K × X)) → T (is_sorted R es) → All (λ e. find R e.0 es ≡ Some e.1) es
  finds_each es h i d within =
      let k = (get_or es i d).0 in
      find_at k es i d within (λ j e lo hi. subst (λ x. R (get_or es j e).0 x ≡ Less) (ap (λ e. e.0) (get_or_default es i e d within)) (rises es j i e h hi within)) (λ e. subst (λ x. R x k ≡ Equal) (ap (λ e. e.0) (get_or_default es i d e within)) (tied_itself o k))

  pub All-put : IsAntisymmetric R → (P : K × X → Type 0) (k : K) (v : X) (es : List (K × X)) → P (k, v) → All P es → All P (put R k v es)
  All-put same P k v [] p all = All-cons P (k, v) [] p all
  All-put same P k v (e ∷ es) p all =
      elim (R k e.0) as (λ r. R k e.0 ≡ r → All P (by_order r ((k, v) ∷ e ∷ es) ((e.0, v) ∷ es) (e ∷ put R k v es))) [
        | Less ↦ λ is. All-cons P (k, v) (e ∷ es) p all
        | Equal ↦ λ is. All-cons P (e.0, v) es (subst (λ q. P (q, v)) (same _ _ is) p) (All-tail P e es all)
        | Greater ↦ λ is. All-cons P e (put R k v es) (All-head P e es all) (All-put same P k v es p (All-tail P e es all))
      ] refl

  -- the map of a list in order, and of what an edit leaves of it
  pub insert-from_sorted : (k : K) (v : X) (es : List (K × X)) → T (is_sorted R es) → finite.insert (from_sorted {R = R} es) k v ≡ from_sorted (put R k v es)
  insert-from_sorted k v es h = same_entries_map _ _ (entries-insert o _ k v ∙ ap (put R k v) (entries-from_sorted R es h) ∙ sym (entries-from_sorted R _ (is_sorted-put R o k v es h)))

  pub retain_keys-from_sorted : IsAntisymmetric R → (p : K → Bool) (es : List (K × X)) → T (is_sorted R es) → retain_keys (from_sorted {R = R} es) p ≡ from_sorted (where_key R p es)
  retain_keys-from_sorted same p es h =
      let alike : (q x : K) → R q x ≡ Equal → p x ≡ p q = λ q x t. ap p (sym (same _ _ t)) in
      same_map o same _ _ (λ q. get-retain_keys _ p q (alike q) ∙ ap (λ r. cond (p q) r None) (get-from_sorted R es q h) ∙ sym (get-from_sorted R _ q (is_sorted-where_key R p es h) ∙ find-where_key R p q (alike q) es))

  pub remove-from_sorted : IsAntisymmetric R → (k : K) (es : List (K × X)) → T (is_sorted R es) → finite.remove (from_sorted {R = R} es) k ≡ from_sorted (where_key R (λ x. not (eq_by_cmp R k x)) es)
  remove-from_sorted same k es h =
      let p : K → Bool = λ x. not (eq_by_cmp R k x) in
      same_map o same _ _ (λ q.
      get-remove o _ k q ∙ ap (λ b. cond b None (get (from_sorted {R = R} es) q)) ((eq_by_cmp_equiv o).symm q k) ∙ opposite (eq_by_cmp R k q) _ _
      ∙ ap (λ r. cond (p q) r None) (get-from_sorted R es q h)
      ∙ sym (get-from_sorted R _ q (is_sorted-where_key R p es h) ∙ find-where_key R p q (λ x t. ap p (sym (same _ _ t))) es))
