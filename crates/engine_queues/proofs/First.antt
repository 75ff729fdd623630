-- The first connection of a flow for which something holds.
use Rattle.std.proofs.Common.{◌≡◌, ℕ, zero, suc, ◌+◌, ◌<◌, ◌||◌, Bool, true, false, cond, List, [], ◌∷◌, refl, ap, ◌∙◌, arith}
use Rattle.std.specs.Prelude.{Option, Some, None, find, is_some, slice_get, option_map}
use Rattle.std.specs.List.{cons_option, filter_map, enumerate_from, list_any}

module _ {X Y : Type 0} (owes : ℕ → X → Option Y) where
  abbrev here : ℕ × X → Option (ℕ × Y)
  here (place, x) = option_map (λ y. (place, y)) (owes place x)

  pub none-owes : (from : ℕ) (xs : List X) → ((k : ℕ) (x : X) → slice_get xs k ≡ Some x → owes (from + k) x ≡ None) → slice_get (filter_map here (enumerate_from from xs)) 0 ≡ None
  none-owes from [] each = refl
  none-owes from (x ∷ xs) each =
      let no : owes from x ≡ None = ap (λ n. owes n x) (omega arith) ∙ each 0 x refl in
      let rest = filter_map here (enumerate_from (from + 1) xs) in
      ap (λ o. slice_get (cons_option (option_map (λ y. (from, y)) o) rest) 0) no
      ∙ none-owes (from + 1) xs (λ k y is. ap (λ n. owes n y) (omega arith) ∙ each (suc k) y is)

  pub first-owes : (from place : ℕ) (xs : List X) (x : X) (y : Y) → slice_get xs place ≡ Some x → owes (from + place) x ≡ Some y
      → ((k : ℕ) (z : X) → k < place → slice_get xs k ≡ Some z → owes (from + k) z ≡ None) → slice_get (filter_map here (enumerate_from from xs)) 0 ≡ Some (from + place, y)
  first-owes from place [] x y at is before = cc
  first-owes from zero (w ∷ xs) x y at is before =
      let same : w ≡ x = cc in
      let yes : owes from w ≡ Some y = ap (λ n. owes n w) (omega arith) ∙ ap (owes (from + zero)) same ∙ is in
      let rest = filter_map here (enumerate_from (from + 1) xs) in
      ap (λ o. slice_get (cons_option (option_map (λ z. (from, z)) o) rest) 0) yes ∙ ap (λ n. Some (n, y)) (omega arith)
  first-owes from (suc place) (w ∷ xs) x y at is before =
      let no : owes from w ≡ None = ap (λ n. owes n w) (omega arith) ∙ before 0 w (omega arith) refl in
      let rest = filter_map here (enumerate_from (from + 1) xs) in
      ap (λ o. slice_get (cons_option (option_map (λ z. (from, z)) o) rest) 0) no
      ∙ first-owes (from + 1) place xs x y at (ap (λ n. owes n x) (omega arith) ∙ is) (λ k z lt there. ap (λ n. owes n z) (omega arith) ∙ before (suc k) z (omega arith) there)
      ∙ ap (λ n. Some (n, y)) (omega arith)

module _ {X : Type 0} (test : ℕ × X → Bool) where
  pub none-found : (from : ℕ) (xs : List X) → ((k : ℕ) (x : X) → slice_get xs k ≡ Some x → test (from + k, x) ≡ false) → find test (enumerate_from from xs) ≡ None
  none-found from [] each = refl
  none-found from (x ∷ xs) each =
      let no : test (from, x) ≡ false = ap (λ n. test (n, x)) (omega arith) ∙ each 0 x refl in
      rw no (none-found (from + 1) xs (λ k y is. ap (λ n. test (n, y)) (omega arith) ∙ each (suc k) y is))

  pub first-found : (from place : ℕ) (xs : List X) (x : X) → slice_get xs place ≡ Some x → test (from + place, x) ≡ true
      → ((k : ℕ) (z : X) → k < place → slice_get xs k ≡ Some z → test (from + k, z) ≡ false) → find test (enumerate_from from xs) ≡ Some (from + place, x)
  first-found from place [] x at is before = cc
  first-found from zero (w ∷ xs) x at is before =
      let same : w ≡ x = cc in
      let yes : test (from, w) ≡ true = ap (λ n. test (n, w)) (omega arith) ∙ ap (λ z. test (from + zero, z)) same ∙ is in
      rw yes (ap (λ n. Some (n, w)) (omega arith) ∙ ap (λ z. Some (from + zero, z)) same)
  first-found from (suc place) (w ∷ xs) x at is before =
      let no : test (from, w) ≡ false = ap (λ n. test (n, w)) (omega arith) ∙ before 0 w (omega arith) refl in
      rw no (first-found (from + 1) place xs x at (ap (λ n. test (n, x)) (omega arith) ∙ is) (λ k z lt there. ap (λ n. test (n, z)) (omega arith) ∙ before (suc k) z (omega arith) there)
      ∙ ap (λ n. Some (n, x)) (omega arith))

-- whether any passes is whether a first one is found
pub any-found : {X : Type 0} (test : X → Bool) (xs : List X) → list_any test xs ≡ is_some (find test xs)
any-found test [] = refl
any-found test (x ∷ xs) = elim (test x) as (λ b. (b || list_any test xs) ≡ is_some (cond b (Some x) (find test xs))) [ true ↦ refl | false ↦ any-found test xs ]

or_true : (b : Bool) → (b || true) ≡ true
or_true true = refl
or_true false = refl

-- one of those that are numbered passes, or none does
module _ {X : Type 0} (test : ℕ × X → Bool) where
  pub any-there : (from place : ℕ) (xs : List X) (x : X) → slice_get xs place ≡ Some x → test (from + place, x) ≡ true → list_any test (enumerate_from from xs) ≡ true
  any-there from place [] x at is = cc
  any-there from zero (w ∷ xs) x at is =
      let same : w ≡ x = cc in
      let yes : test (from, w) ≡ true = ap (λ n. test (n, w)) (omega arith) ∙ ap (λ z. test (from + zero, z)) same ∙ is in
      ap (λ b. b || list_any test (enumerate_from (from + 1) xs)) yes
  any-there from (suc place) (w ∷ xs) x at is =
      ap (λ b. test (from, w) || b) (any-there (from + 1) place xs x at (ap (λ n. test (n, x)) (omega arith) ∙ is)) ∙ or_true (test (from, w))

  pub any-none : (from : ℕ) (xs : List X) → ((k : ℕ) (x : X) → slice_get xs k ≡ Some x → test (from + k, x) ≡ false) → list_any test (enumerate_from from xs) ≡ false
  any-none from xs each = any-found test (enumerate_from from xs) ∙ ap (λ (o : Option (ℕ × X)). is_some o) (none-found test from xs each)

-- whether the first of those that owe something is there is whether any owes something
pub any-some : {X Y : Type 0} (owes : X → Option Y) (test : X → Bool) → ((x : X) → is_some (owes x) ≡ test x) → (xs : List X) → is_some (slice_get (filter_map owes xs) 0) ≡ list_any test xs
any-some owes test same [] = refl
any-some owes test same (x ∷ xs) = by_owed (owes x) (filter_map owes xs) (any-some owes test same xs) ∙ ap (λ b. b || list_any test xs) (same x)
  where
    by_owed : {Z : Type 0} (owed : Option Z) (rest : List Z) → is_some (slice_get rest 0) ≡ list_any test xs → is_some (slice_get (cons_option owed rest) 0) ≡ (is_some owed || list_any test xs)
    by_owed None rest is = is
    by_owed (Some z) rest is = refl
