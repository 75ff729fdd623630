-- Elements that are put by a key, in whatever order they come.
use Rattle.std.proofs.Common.{◌≡◌, ◌≢◌, ℕ, ◌<◌, ◌≤◌, ltb, subst, Bool, true, false, cond, List, [], ◌∷◌, refl, sym, ap, ◌∙◌, inl, inr, arith}
use Rattle.std.specs.Prelude.{All, filter, fold}
use Rattle.std.proofs.lemmas.Bool.{cases_lt, lt-ltb}
use Rattle.std.proofs.lemmas.List.Elements.{All-nil, All-cons, All-head, All-tail, All-filter}
use Rattle.flowfile_record.specs.NumberedItems.{with_item}
use Rattle.kept_state.proofs.Items.{All-with}

not_below : (m n : ℕ) → n ≤ m → ltb m n ≡ false
not_below m n le = grind arith

module _ {A : Type 0} (key : A → ℕ) where
  abbrev pub put : List A → A → List A
  put zs x = with_item key x zs

  put_past : (x z : A) (zs : List A) → key z < key x → with_item key x (z ∷ zs) ≡ z ∷ with_item key x zs
  put_past x z zs lt = ap (λ (b : Bool). cond b (z ∷ with_item key x zs) (x ∷ z ∷ zs)) (lt-ltb (key z) (key x) lt)

  put_here : (x z : A) (zs : List A) → key x ≤ key z → with_item key x (z ∷ zs) ≡ x ∷ z ∷ zs
  put_here x z zs le = ap (λ (b : Bool). cond b (z ∷ with_item key x zs) (x ∷ z ∷ zs)) (not_below (key z) (key x) le)

  -- ---- two elements may be put in either order

  put_two : (x y : A) (zs : List A) → key x ≢ key y → with_item key y (with_item key x zs) ≡ with_item key x (with_item key y zs)
  put_two x y [] ne = elim (cases_lt (key x) (key y)) [
    | inl lt ↦ put_past y x [] lt ∙ sym (put_here x y [] (omega (arith, lt)))
    | inr le ↦ let lt : key y < key x = omega arith in put_here y x [] le ∙ sym (put_past x y [] lt)
  ]
  put_two x y (z ∷ t) ne = elim (cases_lt (key z) (key x)) [
    | inl zx ↦ elim (cases_lt (key z) (key y)) [
      | inl zy ↦
          ap (with_item key y) (put_past x z t zx) ∙ put_past y z (with_item key x t) zy
          ∙ ap (λ (l : List A). z ∷ l) (put_two x y t ne)
          ∙ sym (ap (with_item key x) (put_past y z t zy) ∙ put_past x z (with_item key y t) zx)
      | inr yz ↦
          ap (with_item key y) (put_past x z t zx) ∙ put_here y z (with_item key x t) yz
          ∙ sym (ap (with_item key x) (put_here y z t yz) ∙ put_past x y (z ∷ t) (omega (arith, zx, yz)) ∙ ap (λ (l : List A). y ∷ l) (put_past x z t zx))
    ]
    | inr xz ↦ elim (cases_lt (key z) (key y)) [
      | inl zy ↦
          ap (with_item key y) (put_here x z t xz) ∙ put_past y x (z ∷ t) (omega (arith, xz, zy)) ∙ ap (λ (l : List A). x ∷ l) (put_past y z t zy)
          ∙ sym (ap (with_item key x) (put_past y z t zy) ∙ put_here x z (with_item key y t) xz)
      | inr yz ↦ elim (cases_lt (key x) (key y)) [
        | inl lt ↦
            ap (with_item key y) (put_here x z t xz) ∙ put_past y x (z ∷ t) lt ∙ ap (λ (l : List A). x ∷ l) (put_here y z t yz)
            ∙ sym (ap (with_item key x) (put_here y z t yz) ∙ put_here x y (z ∷ t) (omega (arith, lt)))
        | inr le ↦
            let lt : key y < key x = omega arith in
            ap (with_item key y) (put_here x z t xz) ∙ put_here y x (z ∷ t) le
            ∙ sym (ap (with_item key x) (put_here y z t yz) ∙ put_past x y (z ∷ t) lt ∙ ap (λ (l : List A). y ∷ l) (put_here x z t xz))
      ]
    ]
  ]

  pub put_later : (x : A) (ys zs : List A) → All (λ y. key x ≢ key y) ys → fold put (with_item key x zs) ys ≡ with_item key x (fold put zs ys)
  put_later x [] zs apart = refl
  put_later x (y ∷ ys) zs apart =
      ap (λ (l : List A). fold put l ys) (put_two x y zs (All-head (λ w. key x ≢ key w) y ys apart))
      ∙ put_later x ys (with_item key y zs) (All-tail (λ w. key x ≢ key w) y ys apart)

  -- ---- a test

  abbrev From : ℕ → List A → Type 0
  From n zs = All (λ z. n ≤ key z) zs

  abbrev pub Ascends : List A → Type 0
  Ascends [] = Unit {0}
  Ascends (z ∷ zs) = From (key z) zs × Ascends zs

  put_first : (x : A) (zs : List A) → From (key x) zs → with_item key x zs ≡ x ∷ zs
  put_first x [] from = refl
  put_first x (z ∷ zs) from = put_here x z zs (All-head (λ w. key x ≤ key w) z zs from)

  wider_from : (m n : ℕ) (zs : List A) → m ≤ n → From n zs → From m zs
  wider_from m n zs le from = λ k d lt. omega (arith, le, from k d lt)

  ascends_put : (x : A) (zs : List A) → Ascends zs → Ascends (with_item key x zs)
  ascends_put x [] ascends = (All-nil (λ w. key x ≤ key w), tt)
  ascends_put x (z ∷ zs) ascends = elim (cases_lt (key z) (key x)) [
    | inl lt ↦
        subst Ascends (sym (put_past x z zs lt))
        (All-with key (λ w. key z ≤ key w) x zs (omega (arith, lt)) ascends.0, ascends_put x zs ascends.1)
    | inr le ↦
        subst Ascends (sym (put_here x z zs le))
        (All-cons (λ w. key x ≤ key w) z zs le (wider_from (key x) (key z) zs le ascends.0), ascends)
  ]

  pub ascends_fold : (ys zs : List A) → Ascends zs → Ascends (fold put zs ys)
  ascends_fold [] zs ascends = ascends
  ascends_fold (y ∷ ys) zs ascends = ascends_fold ys (with_item key y zs) (ascends_put y zs ascends)

  module _ (g : A → Bool) where
    past_by : (x z : A) (f : List A) (bz bx : Bool) → key z < key x
        → cond bz (z ∷ cond bx (with_item key x f) f) (cond bx (with_item key x f) f) ≡ cond bx (with_item key x (cond bz (z ∷ f) f)) (cond bz (z ∷ f) f)
    past_by x z f true true lt = sym (put_past x z f lt)
    past_by x z f true false lt = refl
    past_by x z f false bx lt = refl

    filter_put : (x : A) (zs : List A) → Ascends zs → filter g (with_item key x zs) ≡ cond (g x) (with_item key x (filter g zs)) (filter g zs)
    filter_put x [] ascends = refl
    filter_put x (z ∷ zs) ascends = elim (cases_lt (key z) (key x)) [
      | inl lt ↦
          ap (filter g) (put_past x z zs lt)
          ∙ ap (λ (l : List A). cond (g z) (z ∷ l) l) (filter_put x zs ascends.1)
          ∙ past_by x z (filter g zs) (g z) (g x) lt
      | inr le ↦
          let from : From (key x) (z ∷ zs) = All-cons (λ w. key x ≤ key w) z zs le (wider_from (key x) (key z) zs le ascends.0) in
          ap (filter g) (put_here x z zs le)
          ∙ ap (λ (l : List A). cond (g x) l (filter g (z ∷ zs))) (sym (put_first x (filter g (z ∷ zs)) (All-filter g (λ w. key x ≤ key w) (z ∷ zs) from)))
    ]

    fold_by : (y : A) (ys zs : List A) (b : Bool) → fold put (cond b (with_item key y zs) zs) ys ≡ fold put zs (cond b (y ∷ ys) ys)
    fold_by y ys zs true = refl
    fold_by y ys zs false = refl

    pub filter_fold : (ys zs : List A) → Ascends zs → filter g (fold put zs ys) ≡ fold put (filter g zs) (filter g ys)
    filter_fold [] zs ascends = refl
    filter_fold (y ∷ ys) zs ascends =
        filter_fold ys (with_item key y zs) (ascends_put y zs ascends)
        ∙ ap (λ (l : List A). fold put l (filter g ys)) (filter_put y zs ascends)
        ∙ fold_by y (filter g ys) (filter g zs) (g y)
