-- Where a binary search ends among slots that hold entries in order, and what an edit there makes of the entries.
use Rattle.std.proofs.Common.{◌≡◌, ℕ, ◌<◌, ◌≤◌, List, ◌∷◌, ◌++◌, length, map, take, drop, get_or, set, IsTrue, Ordering, Less, Equal, Greater, Result, Ok, Err, IfOk, IfErr, sym, ◌∙◌, ap, subst, arith}
use Rattle.std.specs.Ordering.{ordering_index}
use Rattle.std.specs.Cmp.{IsTotalOrder}
use Rattle.std.specs.List.{AllWithin, HoldsAt, insert}
use Rattle.std.specs.List.Sorted.{IsSearchInRange, IsBinarySearchResult}
use Rattle.std.specs.FinMap.{IsAntisymmetric, put, is_sorted}
use Rattle.std.proofs.lemmas.List.{get_or-map, length-map, map-append, map-set, take-map, drop-map}
use Rattle.flowfile_record.specs.Places.{IsAt, IsGap}
use Rattle.flowfile_record.proofs.Entries.{T-from, comparisons_rise, around, put_in_gap, put_at}

pub map-insert : {S E : Type 0} (entry : S → E) (slots : List S) (place : ℕ) (new : S) → map entry (insert slots place new) ≡ insert (map entry slots) place (entry new)
map-insert entry slots place new =
    map-append entry (take place slots) _ ∙ ap (λ l. l ++ entry new ∷ map entry (drop place slots)) (sym (take-map entry place slots)) ∙ ap (λ l. take place (map entry slots) ++ entry new ∷ l) (sym (drop-map entry place slots))

module _ {S K X : Type 0} {R : K → K → Ordering} (o : IsTotalOrder R) (entry : S → K × X) (slot : K × X → S) where
  AllWithin-map : (P : K × X → Type 0) (slots : List S) (lo hi : ℕ) → hi ≤ length slots → AllWithin (λ s. P (entry s)) slots lo hi → AllWithin P (map entry slots) lo hi
  AllWithin-map P slots lo hi le all j d l h = subst P (sym (get_or-map entry slots j (slot d) d (omega arith))) (all j (slot d) l h)

  pub searched : (slots : List S) (key : K) (r : Result ℕ ℕ) → IsTrue (is_sorted R (map entry slots)) → IsSearchInRange r (length slots) → IsBinarySearchResult (λ s. R (entry s).0 key) slots r → IfOk r (IsAt R (map entry slots) key) × IfErr r (IsGap R (map entry slots) key)
  searched slots key (Ok place) h bound position =
      let es = map entry slots in
      let long : length es ≡ length slots = length-map slots entry in
      let within : place < length es = omega arith in
      let at : HoldsAt (λ e. R e.0 key ≡ Equal) es place = λ d. subst (λ (e : K × X). R e.0 key ≡ Equal) (sym (get_or-map entry slots place (slot d) d bound)) (position (slot d)) in
      let sides = around o key es place (T-from _ h) within at in
      (record { within = within; before = sides.0; at = at; after = sides.1 }, tt)
  searched slots key (Err place) h bound position =
      let es = map entry slots in
      let long : length es ≡ length slots = length-map slots entry in
      let rise = comparisons_rise o es key (T-from _ h) in
      let sides = position (λ i j d le lt.
      let a = get_or-map entry slots i d (entry d) (omega arith) in
      let b = get_or-map entry slots j d (entry d) lt in
      subst (λ (n : ℕ). n ≤ ordering_index (R (entry (get_or slots j d)).0 key)) (ap (λ (e : K × X). ordering_index (R e.0 key)) a)
      (subst (λ (n : ℕ). ordering_index (R (get_or es i (entry d)).0 key) ≤ n) (ap (λ (e : K × X). ordering_index (R e.0 key)) b) (rise i j (entry d) le (omega arith)))) in (
        tt,
        record {
          within = omega arith;
          before = AllWithin-map (λ e. R e.0 key ≡ Less) slots 0 place bound sides.0;
          after = subst (λ (n : ℕ). AllWithin (λ e. R e.0 key ≡ Greater) es place n) (sym long) (AllWithin-map (λ e. R e.0 key ≡ Greater) slots place (length slots) (omega arith) sides.1);
        },
      )

module _ {S K X : Type 0} {R : K → K → Ordering} (o : IsTotalOrder R) (same : IsAntisymmetric R) (entry : S → K × X) (slots : List S) (key : K) (place : ℕ) where
  pub in_slots : IsAt R (map entry slots) key place → place < length slots
  in_slots is =
      let within : place < length (map entry slots) = is.within in
      omega (arith, length-map slots entry)

  pub key_at : (slot : S) → IsAt R (map entry slots) key place → slot ≡ get_or slots place slot → (entry slot).0 ≡ key
  key_at slot is read =
      ap (λ (s : S). (entry s).0) read ∙ ap (λ (e : K × X). e.0) (sym (get_or-map entry slots place slot (entry slot) (in_slots is))) ∙ same _ _ (is.at (entry slot))

  pub put_over : (slot new : S) (value : X) → IsAt R (map entry slots) key place → slot ≡ get_or slots place slot → entry new ≡ ((entry slot).0, value) → map entry (set slots place new) ≡ put R key value (map entry slots)
  put_over slot new value is read made =
      map-set entry slots place new ∙ ap (set (map entry slots) place) (made ∙ ap (λ (k : K). (k, value)) (key_at slot is read)) ∙ sym (put_at o same key value _ place is.within is.before is.at)

  pub put_new : (new : S) (value : X) → IsGap R (map entry slots) key place → entry new ≡ (key, value) → map entry (insert slots place new) ≡ put R key value (map entry slots)
  put_new new value is made =
      map-insert entry slots place new ∙ ap (insert (map entry slots) place) made ∙ sym (put_in_gap o key value _ place is.within is.before is.after)
