-- Items by their numbers: what stays, and what joins them.
use Rattle.std.proofs.Common.{◌≡◌, ◌≢◌, ℕ, ◌+◌, ◌<◌, ◌==◌, ◌||◌, nat_lt, Bool, true, false, List, [], ◌∷◌, length, map, All, Option, None, Some, refl, sym, ap, ◌∙◌, inl, inr, arith}
use Rattle.std.specs.List.{sum, list_any}
use Rattle.std.proofs.lemmas.Bool.{cases_Bool, eqb-true, eq-eqb, ne_eqb, ltb-true, ltb-false, false≢true}
use Rattle.std.proofs.lemmas.List.Elements.{All-nil, All-cons, All-head, All-tail}
use Rattle.std.proofs.lemmas.List.Sums.{sum_by-cons}
use Rattle.flowfile_record.specs.NumberedItems.{item_of, with_item, with_items, without_item, AreNew, AscendsByNumber}

pub eqb_comm : (a b : ℕ) → (a == b) ≡ (b == a)
eqb_comm a b = elim (cases_Bool (a == b)) [
  | inl t ↦ t ∙ sym (eq-eqb b a (sym (eqb-true a b t)))
  | inr f ↦ f ∙ sym (ne_eqb b a (λ e. absurd (false≢true (sym f ∙ eq-eqb a b (sym e)))))
]

pub refl_eqb : (a : ℕ) → (a == a) ≡ true
refl_eqb a = eq-eqb a a refl

module _ {A : Type 0} (number : A → ℕ) where
  -- ---- one item is taken

  pub item_of-without_other : (m n : ℕ) (items : List A) → m ≢ n → item_of number m (without_item number n items) ≡ item_of number m items
  item_of-without_other m n [] ne = refl
  item_of-without_other m n (x ∷ items) ne =
      let rest = item_of-without_other m n items ne in
      elim (cases_Bool (number x == n)) [
        | inl t ↦
            let other : (number x == m) ≡ false = ne_eqb (number x) m (λ e. ne (sym e ∙ eqb-true (number x) n t)) in
            rw (t, other) rest
        | inr f ↦ rw f (elim (cases_Bool (number x == m)) [ inl s ↦ rw s refl | inr o ↦ rw o rest ])
      ]

  -- a test that finds nothing in the items whose numbers are above one
  pub none_above : (n : ℕ) (items : List A) → All (λ later. n < number later) items → without_item number n items ≡ items
  none_above n [] above = refl
  none_above n (x ∷ items) above =
      let first = All-head (λ later. n < number later) x items above in
      let other : (number x == n) ≡ false = ne_eqb (number x) n (λ e. absurd (omega arith)) in
      rw other (ap (λ (l : List A). x ∷ l) (none_above n items (All-tail (λ later. n < number later) x items above)))

  at_head : (n : ℕ) (x a : A) (rest : Option A) → (number x == n) ≡ true → item_of number n (x ∷ []) ≡ Some x
  at_head n x a rest t = rw t refl

  pub sum-without : (size : A → ℕ) (n : ℕ) (items : List A) (a : A) → AscendsByNumber number items → item_of number n items ≡ Some a
      → sum (map size (without_item number n items)) + size a ≡ sum (map size items)
  sum-without size n [] a ascends is = absurd cc
  sum-without size n (x ∷ items) a ascends is =
      elim (cases_Bool (number x == n)) [
        | inl t ↦
            let same : Some x ≡ Some a = rw t at is in
            let x_is : x ≡ a = cc in
            let above : All (λ later. n < number later) items = rw (eqb-true (number x) n t) at ascends.0 in
            rw t (omega (arith, sum_by-cons (λ y. y) (size x) (map size items), ap (λ l. sum (map size l)) (none_above n items above), ap size x_is))
        | inr f ↦
            let later : item_of number n items ≡ Some a = rw f at is in
            let rest = sum-without size n items a ascends.1 later in
            rw f (omega (arith, rest, sum_by-cons (λ y. y) (size x) (map size items), sum_by-cons (λ y. y) (size x) (map size (without_item number n items))))
      ]

  pub length-without : (n : ℕ) (items : List A) (a : A) → AscendsByNumber number items → item_of number n items ≡ Some a
      → length (without_item number n items) + 1 ≡ length items
  length-without n [] a ascends is = absurd cc
  length-without n (x ∷ items) a ascends is =
      elim (cases_Bool (number x == n)) [
        | inl t ↦
            let above : All (λ later. n < number later) items = rw (eqb-true (number x) n t) at ascends.0 in
            rw t (omega (arith, ap length (none_above n items above)))
        | inr f ↦
            let later : item_of number n items ≡ Some a = rw f at is in
            let rest = length-without n items a ascends.1 later in
            rw f (omega (arith, rest))
      ]

  -- ---- one item joins

  pub item_of-with : (m : ℕ) (new : A) (items : List A) → item_of number m (with_item number new items) ≡ item_of number m (new ∷ items)
  item_of-with m new [] = refl
  item_of-with m new (x ∷ items) =
      elim (cases_Bool (nat_lt (number x) (number new))) [
        | inl t ↦
            let rest = item_of-with m new items in
            elim (cases_Bool (number x == m)) [
              | inl s ↦
                  let lt = ltb-true (number x) (number new) t in
                  let same = eqb-true (number x) m s in
                  let other : (number new == m) ≡ false = ne_eqb (number new) m (λ e. absurd (omega arith)) in
                  rw (t, s, other) refl
              | inr o ↦ rw (t, o) rest
            ]
        | inr f ↦ rw f refl
      ]

  pub sum-with : (size : A → ℕ) (new : A) (items : List A) → sum (map size (with_item number new items)) ≡ sum (map size items) + size new
  sum-with size new [] = omega (arith, sum_by-cons (λ y. y) (size new) [])
  sum-with size new (x ∷ items) =
      elim (cases_Bool (nat_lt (number x) (number new))) [
        | inl t ↦ rw t (omega (arith, sum-with size new items, sum_by-cons (λ y. y) (size x) (map size items), sum_by-cons (λ y. y) (size x) (map size (with_item number new items))))
        | inr f ↦ rw f (omega (arith, sum_by-cons (λ y. y) (size new) (map size (x ∷ items))))
      ]

  pub length-with : (new : A) (items : List A) → length (with_item number new items) ≡ length items + 1
  length-with new [] = refl
  length-with new (x ∷ items) =
      elim (cases_Bool (nat_lt (number x) (number new))) [
        | inl t ↦ rw t (omega (arith, length-with new items))
        | inr f ↦ rw f (omega arith)
      ]

  pub All-with : (P : A → Type 0) (new : A) (items : List A) → P new → All P items → All P (with_item number new items)
  All-with P new [] p all = All-cons P new [] p all
  All-with P new (x ∷ items) p all =
      elim (cases_Bool (nat_lt (number x) (number new))) [
        | inl t ↦ rw t (All-cons P x (with_item number new items) (All-head P x items all) (All-with P new items p (All-tail P x items all)))
        | inr f ↦ rw f (All-cons P new (x ∷ items) p all)
      ]

  any_swapped : (a b c : Bool) → (a || (b || c)) ≡ (b || (a || c))
  any_swapped true true c = refl
  any_swapped true false c = refl
  any_swapped false b c = refl

  pub any-with : (test : A → Bool) (new : A) (items : List A) → list_any test (with_item number new items) ≡ (test new || list_any test items)
  any-with test new [] = refl
  any-with test new (x ∷ items) =
      elim (cases_Bool (nat_lt (number x) (number new))) [
        | inl t ↦ rw t (ap (λ b. test x || b) (any-with test new items) ∙ any_swapped (test x) (test new) (list_any test items))
        | inr f ↦ rw f refl
      ]

  -- the items stay in the order of their numbers
  pub ascends-with : (new : A) (items : List A) → item_of number (number new) items ≡ None → AscendsByNumber number items → AscendsByNumber number (with_item number new items)
  ascends-with new [] none ascends = (All-nil (λ later. number new < number later), tt)
  ascends-with new (x ∷ items) none ascends =
      let other : (number x == number new) ≡ false = elim (cases_Bool (number x == number new)) [ inl s ↦ absurd (let found : Some x ≡ None = rw s at none in cc) | inr o ↦ o ] in
      let later_none : item_of number (number new) items ≡ None = rw other at none in
      elim (cases_Bool (nat_lt (number x) (number new))) [
        | inl t ↦
            rw t (All-with (λ later. number x < number later) new items (ltb-true (number x) (number new) t) ascends.0, ascends-with new items later_none ascends.1)
        | inr f ↦
            let le = ltb-false (number x) (number new) f in
            let ne : number x ≢ number new = λ e. false≢true (sym other ∙ eq-eqb (number x) (number new) e) in
            let below : number new < number x = omega arith in
            rw f (All-cons (λ later. number new < number later) x items below (λ k d lt. let h = ascends.0 k d lt in omega arith), ascends)
      ]

  -- ---- many items join

  pub ascends-with_items : (news items : List A) → AreNew number news items → AscendsByNumber number items → AscendsByNumber number (with_items number news items)
  ascends-with_items [] items new ascends = ascends
  ascends-with_items (a ∷ news) items new ascends = ascends-with_items news (with_item number a items) new.1 (ascends-with a items new.0 ascends)

  pub length-with_items : (news items : List A) → length (with_items number news items) ≡ length items + length news
  length-with_items [] items = omega arith
  length-with_items (a ∷ news) items = omega (arith, length-with_items news (with_item number a items), length-with a items)
