-- Sums over lists, by which files are counted.
use Rattle.std.proofs.Common.{◌≡◌, inl, inr, ℕ, zero, suc, ◌+◌, ◌<◌, ◌≤◌, Bool, true, false, cond, List, [], ◌∷◌, ◌++◌, map, refl, sym, ap, ◌∙◌, arith}
use Rattle.std.specs.Prelude.{◌==◌, Some, filter, find, slice_get, slice_set, zip}
use Rattle.std.specs.List.{flat_map, enumerate_from, range_with_len}
use Rattle.std.proofs.lemmas.Bool.{cases_eq, ne_eqb}

abbrev pub tally : {X : Type 0} → (X → ℕ) → List X → ℕ
tally w [] = 0
tally w (x ∷ xs) = w x + tally w xs

abbrev pub bit : Bool → ℕ
bit b = cond b 1 0

-- how many of a list have this key
abbrev pub many : {X : Type 0} → (X → ℕ) → ℕ → List X → ℕ
many key n xs = tally (λ x. bit (key x == n)) xs

pub tally-append : {X : Type 0} (w : X → ℕ) (xs ys : List X) → tally w (xs ++ ys) ≡ tally w xs + tally w ys
tally-append w [] ys = omega arith
tally-append w (x ∷ xs) ys = omega (arith, tally-append w xs ys)

pub tally-map : {X Y : Type 0} (w : Y → ℕ) (g : X → Y) (xs : List X) → tally w (map g xs) ≡ tally (λ x. w (g x)) xs
tally-map w g [] = refl
tally-map w g (x ∷ xs) = ap (λ n. w (g x) + n) (tally-map w g xs)

pub tally-flat_map : {X Y : Type 0} (w : Y → ℕ) (g : X → List Y) (xs : List X) → tally w (flat_map g xs) ≡ tally (λ x. tally w (g x)) xs
tally-flat_map w g [] = refl
tally-flat_map w g (x ∷ xs) = tally-append w (g x) (flat_map g xs) ∙ ap (λ n. tally w (g x) + n) (tally-flat_map w g xs)

pub tally-plus : {X : Type 0} (v w : X → ℕ) (xs : List X) → tally (λ x. v x + w x) xs ≡ tally v xs + tally w xs
tally-plus v w [] = omega arith
tally-plus v w (x ∷ xs) = omega (arith, tally-plus v w xs)

pub tally-le : {X : Type 0} (v w : X → ℕ) → ((x : X) → v x ≤ w x) → (xs : List X) → tally v xs ≤ tally w xs
tally-le v w each [] = omega arith
tally-le v w each (x ∷ xs) = omega (arith, each x, tally-le v w each xs)

pub tally-same : {X : Type 0} (v w : X → ℕ) → ((x : X) → v x ≡ w x) → (xs : List X) → tally v xs ≡ tally w xs
tally-same v w each xs = ap (λ f. tally f xs) (λ i x. each x i)

pub tally-none : {X : Type 0} (xs : List X) → tally (λ (x : X). 0) xs ≡ 0
tally-none [] = refl
tally-none (x ∷ xs) = omega (arith, tally-none xs)

pub tally-enumerate : {X : Type 0} (w : X → ℕ) (k : ℕ) (xs : List X) → tally (λ (q : ℕ × X). w q.1) (enumerate_from k xs) ≡ tally w xs
tally-enumerate w k [] = refl
tally-enumerate w k (x ∷ xs) = ap (λ n. w x + n) (tally-enumerate w (k + 1) xs)

pub tally-filter : {X : Type 0} (w : X → ℕ) (p : X → Bool) (xs : List X) → tally w (filter p xs) ≤ tally w xs
tally-filter w p [] = omega arith
tally-filter w p (x ∷ xs) =
    let rest = tally-filter w p xs in
    elim (p x) as (λ b. tally w (cond b (x ∷ filter p xs) (filter p xs)) ≤ w x + tally w xs) [ true ↦ omega (arith, rest) | false ↦ omega (arith, rest) ]

pub tally-zip : {X Y : Type 0} (w : X → ℕ) (xs : List X) (ys : List Y) → tally (λ (p : X × Y). w p.0) (zip xs ys) ≤ tally w xs
tally-zip w [] ys = omega arith
tally-zip w (x ∷ xs) [] = omega arith
tally-zip w (x ∷ xs) (y ∷ ys) = omega (arith, tally-zip w xs ys)

-- in place of an element there is one that weighs no more
pub tally-set : {X : Type 0} (w : X → ℕ) (xs : List X) (i : ℕ) (y : X) → ((x : X) → slice_get xs i ≡ Some x → w y ≤ w x) → tally w (slice_set xs i y) ≤ tally w xs
tally-set w [] i y lighter = omega arith
tally-set w (x ∷ xs) zero y lighter = omega (arith, lighter x refl)
tally-set w (x ∷ xs) (suc i) y lighter = omega (arith, tally-set w xs i y lighter)

-- ---- what weighs at one place only

pub at_most : (b : Bool) (n : ℕ) → cond b n 0 ≤ n
at_most b n = elim b as (λ b. cond b n 0 ≤ n) [ true ↦ omega arith | false ↦ omega arith ]

past_place : {X : Type 0} (x v k : ℕ) (xs : List X) → x < k → tally (λ (q : ℕ × X). cond (x == q.0) v 0) (enumerate_from k xs) ≡ 0
past_place x v k [] h = refl
past_place x v k (y ∷ xs) h =
    let no : (x == k) ≡ false = ne_eqb x k (λ e. omega arith) in
    rw no (omega (arith, past_place x v (k + 1) xs (omega arith)))

pub at_place : {X : Type 0} (x v k : ℕ) (xs : List X) → tally (λ (q : ℕ × X). cond (x == q.0) v 0) (enumerate_from k xs) ≤ v
at_place x v k [] = omega arith
at_place x v k (y ∷ xs) =
    elim (cases_eq x k) [
      | inl e ↦ omega (arith, at_most (x == k) v, past_place x v (k + 1) xs (omega arith))
      | inr ne ↦ let no : (x == k) ≡ false = ne_eqb x k ne in rw no (omega (arith, at_place x v (k + 1) xs))
    ]

pub none_passes : {X : Type 0} (p : X → Bool) (v : X → ℕ) (xs : List X) → tally (λ x. bit (p x)) xs ≡ 0 → tally (λ x. cond (p x) (v x) 0) xs ≡ 0
none_passes p v [] h = refl
none_passes p v (x ∷ xs) h =
    elim (p x) as (λ b. bit b + tally (λ y. bit (p y)) xs ≡ 0 → cond b (v x) 0 + tally (λ y. cond (p y) (v y) 0) xs ≡ 0) [
      | true ↦ λ h. absurd (omega arith)
      | false ↦ λ h. omega (arith, none_passes p v xs (omega arith))
    ] h

pub one_passes : {X : Type 0} (p : X → Bool) (n : ℕ) (xs : List X) → tally (λ x. bit (p x)) xs ≤ 1 → tally (λ x. cond (p x) n 0) xs ≤ n
one_passes p n [] h = omega arith
one_passes p n (x ∷ xs) h =
    elim (p x) as (λ b. bit b + tally (λ y. bit (p y)) xs ≤ 1 → cond b n 0 + tally (λ y. cond (p y) n 0) xs ≤ n) [
      | true ↦ λ h. omega (arith, none_passes p (λ _. n) xs (omega arith))
      | false ↦ λ h. omega (arith, one_passes p n xs (omega arith))
    ] h

-- ---- numbers in a row

pub run_below : (k m n : ℕ) → n < k → many (λ (x : ℕ). x) n (range_with_len k m) ≡ 0
run_below k zero n h = refl
run_below k (suc m) n h = let no : (k == n) ≡ false = ne_eqb k n (λ e. omega arith) in rw no (omega (arith, run_below (k + 1) m n (omega arith)))

pub run_past : (k m n : ℕ) → k + m ≤ n → many (λ (x : ℕ). x) n (range_with_len k m) ≡ 0
run_past k zero n h = refl
run_past k (suc m) n h = let no : (k == n) ≡ false = ne_eqb k n (λ e. omega arith) in rw no (omega (arith, run_past (k + 1) m n (omega arith)))

pub run_once : (k m n : ℕ) → many (λ (x : ℕ). x) n (range_with_len k m) ≤ 1
run_once k zero n = omega arith
run_once k (suc m) n =
    elim (cases_eq k n) [
      | inl e ↦ omega (arith, at_most (k == n) 1, run_below (k + 1) m n (omega arith))
      | inr ne ↦ let no : (k == n) ≡ false = ne_eqb k n ne in rw no (omega (arith, run_once (k + 1) m n))
    ]

-- ---- what a list has by recursion

abbrev pub Each : {X : Type 0} → (X → Type 0) → List X → Type 0
Each P [] = Unit {0}
Each P (x ∷ xs) = P x × Each P xs

pub each-append : {X : Type 0} (P : X → Type 0) (xs ys : List X) → Each P xs → Each P ys → Each P (xs ++ ys)
each-append P [] ys h k = k
each-append P (x ∷ xs) ys h k = (h.0, each-append P xs ys h.1 k)

pub each-flat_map : {X Y : Type 0} (P : Y → Type 0) (g : X → List Y) (xs : List X) → ((x : X) → Each P (g x)) → Each P (flat_map g xs)
each-flat_map P g [] h = tt
each-flat_map P g (x ∷ xs) h = each-append P (g x) (flat_map g xs) (h x) (each-flat_map P g xs h)

pub each-map : {X Y : Type 0} (P : Y → Type 0) (g : X → Y) (xs : List X) → ((x : X) → P (g x)) → Each P (map g xs)
each-map P g [] h = tt
each-map P g (x ∷ xs) h = (h x, each-map P g xs h)

pub find-passes : {X : Type 0} (p : X → Bool) (xs : List X) (x : X) → find p xs ≡ Some x → p x ≡ true
find-passes p [] x is = cc
find-passes p (y ∷ xs) x is =
    elim (p y) as (λ b. p y ≡ b → cond b (Some y) (find p xs) ≡ Some x → p x ≡ true) [
      | true ↦ λ yes found. let same : y ≡ x = cc found in ap p (sym same) ∙ yes
      | false ↦ λ no found. find-passes p xs x found
    ] refl is
