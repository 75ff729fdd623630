-- Elements whose numbers ascend: the one at a place, and what a change or a test makes of them.
use Rattle.std.proofs.Common.{◌≡◌, inl, inr, ℕ, zero, suc, ◌<◌, ◌==◌, nat_lt, Bool, true, false, cond, not, List, [], ◌∷◌, length, map, get_or, Some, None, refl, sym, ap, ◌∙◌, arith}
use Rattle.std.specs.List.{All, HoldsAt, filter}
use Rattle.std.proofs.lemmas.Bool.{cases_eq, cases_lt, lt-ltb, le-ltb, eq-eqb, ne_eqb}
use Rattle.std.proofs.lemmas.List.Elements.{All-nil, All-cons, All-head, All-tail, All-weaker, All-filter}
use Rattle.flowfile_record.specs.NumberedItems.{item_of, with_item, without_item, AscendsByNumber}

module _ {A : Type 0} (number : A → ℕ) where
  abbrev Above : A → List A → Type 0
  Above item items = All (λ later. number item < number later) items

  -- ---- the element at a place

  differs : (item : A) (items : List A) (place n : ℕ) → Above item items → place < length items → HoldsAt (λ later. number later ≡ n) items place → (number item == n) ≡ false
  differs item items place n above within at =
      let lt : number item < number (get_or items place item) = above place item within in
      let is : number (get_or items place item) ≡ n = at item in
      ne_eqb (number item) n (λ e. omega arith)

  pub item_of-at : (items : List A) (place n : ℕ) (d : A) → AscendsByNumber number items → place < length items → HoldsAt (λ item. number item ≡ n) items place → item_of number n items ≡ Some (get_or items place d)
  item_of-at [] place n d up within at = absurd (omega arith)
  item_of-at (item ∷ items) zero n d up within at = let yes : (number item == n) ≡ true = eq-eqb (number item) n (at item) in rw yes
  item_of-at (item ∷ items) (suc place) n d up within at =
      let later : HoldsAt (λ item. number item ≡ n) items place = λ e. at e in
      let no : (number item == n) ≡ false = differs item items place n up.0 (omega arith) later in
      rw no (item_of-at items place n d up.1 (omega arith) later)

  none_equal : (items : List A) (n : ℕ) → All (λ later. n < number later) items → filter (λ item. not (number item == n)) items ≡ items
  none_equal [] n above = refl
  none_equal (item ∷ items) n above =
      let lt : n < number item = All-head (λ later. n < number later) item items above in
      let no : (number item == n) ≡ false = ne_eqb (number item) n (λ e. omega arith) in
      rw no (ap (λ l. item ∷ l) (none_equal items n (All-tail (λ later. n < number later) item items above)))

  above_it : (item : A) (items : List A) (n : ℕ) → number item ≡ n → Above item items → All (λ later. n < number later) items
  above_it item items n is above = All-weaker (λ later. number item < number later) (λ later. n < number later) (λ later lt. omega arith) items above

  none_changed : (change : A → A) (items : List A) (n : ℕ) → All (λ later. n < number later) items → map (λ item. cond (number item == n) (change item) item) items ≡ items
  none_changed change [] n above = refl
  none_changed change (item ∷ items) n above =
      let lt : n < number item = All-head (λ later. n < number later) item items above in
      let no : (number item == n) ≡ false = ne_eqb (number item) n (λ e. omega arith) in
      rw no (ap (λ l. item ∷ l) (none_changed change items n (All-tail (λ later. n < number later) item items above)))

  -- ---- an element is changed

  first-with : (new : A) (items : List A) → Above new items → with_item number new items ≡ new ∷ items
  first-with new [] above = refl
  first-with new (item ∷ items) above =
      let lt : number new < number item = All-head (λ later. number new < number later) item items above in
      let no : nat_lt (number item) (number new) ≡ false = le-ltb (number item) (number new) (omega arith) in
      rw no

  none_of : (n : ℕ) (items : List A) → All (λ later. n < number later) items → item_of number n items ≡ None
  none_of n [] above = refl
  none_of n (item ∷ items) above =
      let lt : n < number item = All-head (λ later. n < number later) item items above in
      let no : (number item == n) ≡ false = ne_eqb (number item) n (λ e. omega arith) in
      rw no (none_of n items (All-tail (λ later. n < number later) item items above))

  -- taken out and put back with a change that leaves its number
  pub changed-with : (change : A → A) (items : List A) (n : ℕ) (old : A) → AscendsByNumber number items → item_of number n items ≡ Some old → number (change old) ≡ n
      → with_item number (change old) (without_item number n items) ≡ map (λ item. cond (number item == n) (change item) item) items
  changed-with change [] n old up is same = cc
  changed-with change (item ∷ items) n old up is same =
      elim (cases_eq (number item) n) [
        | inl here ↦
            let yes : (number item == n) ≡ true = eq-eqb (number item) n here in
            let found : Some item ≡ Some old = rw yes at is in
            let it : item ≡ old = cc in
            let above = above_it item items n here up.0 in
            let first : Above (change old) items = All-weaker (λ later. n < number later) (λ later. number (change old) < number later) (λ later lt. omega arith) items above in
            rw yes (ap (with_item number (change old)) (none_equal items n above)
            ∙ first-with (change old) items first
            ∙ (λ j. change (sym it j) ∷ items)
            ∙ ap (λ l. change item ∷ l) (sym (none_changed change items n above)))
        | inr away ↦
            let no : (number item == n) ≡ false = ne_eqb (number item) n away in
            let later : item_of number n items ≡ Some old = rw no at is in
            let below : number item < n = elim (cases_lt (number item) n) [
              | inl lt ↦ lt
              | inr ge ↦
                  let more : n < number item = omega arith in
                  let none = none_of n items (All-weaker (λ other. number item < number other) (λ other. n < number other) (λ other lt. omega arith) items up.0) in
                  let both : None ≡ Some old = sym none ∙ later in
                  cc
            ] in
            let before : nat_lt (number item) (number (change old)) ≡ true = lt-ltb (number item) (number (change old)) (omega arith) in
            rw no (ap (λ b. cond b (item ∷ with_item number (change old) (without_item number n items)) (change old ∷ item ∷ without_item number n items)) before
            ∙ ap (λ l. item ∷ l) (changed-with change items n old up.1 later same))
      ]

  -- ---- fewer elements

  pub ascends-filter : (p : A → Bool) (items : List A) → AscendsByNumber number items → AscendsByNumber number (filter p items)
  ascends-filter p [] up = tt
  ascends-filter p (item ∷ items) up =
      let rest = ascends-filter p items up.1 in
      elim (p item) as (λ b. AscendsByNumber number (cond b (item ∷ filter p items) (filter p items))) [
        | true ↦ (All-filter p (λ later. number item < number later) items up.0, rest)
        | false ↦ rest
      ]

module _ {A B : Type 0} (number : A → ℕ) (key : B → ℕ) (f : A → B) (same : (item : A) → key (f item) ≡ number item) where
  above-map : (m n : ℕ) → m ≡ n → (items : List A) → All (λ later. n < number later) items → All (λ later. m < key later) (map f items)
  above-map m n is [] above = All-nil (λ later. m < key later)
  above-map m n is (item ∷ items) above =
      let lt : n < number item = All-head (λ later. n < number later) item items above in
      let here : key (f item) ≡ number item = same item in
      All-cons (λ later. m < key later) (f item) (map f items) (omega arith) (above-map m n is items (All-tail (λ later. n < number later) item items above))

  pub ascends-map : (items : List A) → AscendsByNumber number items → AscendsByNumber key (map f items)
  ascends-map [] up = tt
  ascends-map (item ∷ items) up = (above-map (key (f item)) (number item) (same item) items up.0, ascends-map items up.1)
