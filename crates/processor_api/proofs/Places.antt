-- The places of those that pass a test, one after the other: what a loop over them finds, and how many there are.
use Rattle.std.proofs.Common.{◌≡◌, ℕ, ◌+◌, ◌<◌, ◌≤◌, Bool, true, false, cond, List, [], ◌∷◌, ◌++◌, length, map, refl, sym, ◌∙◌, ap, arith, add-zero, take, get_or, length-take-le}
use Rattle.std.specs.Prelude.{filter}
use Rattle.std.specs.List.{All, enumerate_from}
use Rattle.std.proofs.lemmas.List.{append-nil, length-map, map-append, take_more}
use Rattle.std.proofs.lemmas.List.Elements.{All-cons, All-filter, All-map, All-nil, filter-append}
use Rattle.machine_model.specs.RouteOnAttribute.{places_where}

enumerate_from-append : {X : Type 0} (n : ℕ) (xs ys : List X) → enumerate_from n (xs ++ ys) ≡ enumerate_from n xs ++ enumerate_from (n + length xs) ys
enumerate_from-append n [] ys = ap (λ m. enumerate_from m ys) (sym (add-zero n))
enumerate_from-append n (x ∷ xs) ys =
    let count : (n + 1) + length xs ≡ n + length (x ∷ xs) = omega arith in
    ap (λ rest. (n, x) ∷ rest) (enumerate_from-append (n + 1) xs ys ∙ ap (λ m. enumerate_from (n + 1) xs ++ enumerate_from m ys) count)

below : {X : Type 0} (n m : ℕ) (xs : List X) → n + length xs ≤ m → All (λ (p : ℕ × X). p.0 < m) (enumerate_from n xs)
below {X = X} n m [] fits = All-nil (λ (p : ℕ × X). p.0 < m)
below {X = X} n m (x ∷ xs) fits = All-cons (λ (p : ℕ × X). p.0 < m) (n, x) (enumerate_from (n + 1) xs) (omega arith) (below (n + 1) m xs (omega arith))

module _ {X : Type 0} (passes : X → Bool) where
  -- the place of one, where it passes
  abbrev place_of : ℕ → X → List ℕ
  place_of place x = cond (passes x) (place ∷ []) []

  one_place : (place : ℕ) (x : X) → map (λ (p : ℕ × X). p.0) (filter (λ (p : ℕ × X). passes p.1) ((place, x) ∷ [])) ≡ place_of place x
  one_place place x =
      elim (passes x) as (λ b. map (λ (p : ℕ × X). p.0) (cond b ((place, x) ∷ []) []) ≡ cond b (place ∷ []) []) [ true ↦ refl | false ↦ refl ]

  -- one more
  places-more : (xs : List X) (x : X) → places_where passes (xs ++ x ∷ []) ≡ places_where passes xs ++ place_of (length xs) x
  places-more xs x =
      let test : ℕ × X → Bool = λ p. passes p.1 in
      let place : ℕ × X → ℕ = λ p. p.0 in
      let last = enumerate_from (0 + length xs) (x ∷ []) in
      let count : 0 + length xs ≡ length xs = omega arith in
      ap (λ pairs. map place (filter test pairs)) (enumerate_from-append 0 xs (x ∷ []))
      ∙ ap (map place) (filter-append test (enumerate_from 0 xs) last)
      ∙ map-append place (filter test (enumerate_from 0 xs)) (filter test last)
      ∙ ap (λ places. places_where passes xs ++ places) (one_place (0 + length xs) x ∙ ap (λ n. place_of n x) count)

  -- one more turn of a loop over them
  places-step : (xs : List X) (place : ℕ) (x : X) → place < length xs → x ≡ get_or xs place x → places_where passes (take (place + 1) xs) ≡ places_where passes (take place xs) ++ place_of place x
  places-step xs place x there is =
      let more : take (place + 1) xs ≡ take place xs ++ x ∷ [] = take_more xs place x there ∙ ap (λ p. take place xs ++ p ∷ []) (sym is) in
      let count : length (take place xs) ≡ place = length-take-le place xs (omega arith) in
      ap (places_where passes) more ∙ places-more (take place xs) x
      ∙ ap (λ n. places_where passes (take place xs) ++ place_of n x) count

  pub step-passes : (xs : List X) (place : ℕ) (x : X) → place < length xs → x ≡ get_or xs place x → passes x ≡ true → places_where passes (take place xs) ++ place ∷ [] ≡ places_where passes (take (place + 1) xs)
  step-passes xs place x there is truth =
      ap (λ b. places_where passes (take place xs) ++ cond b (place ∷ []) []) (sym truth) ∙ sym (places-step xs place x there is)

  pub step-fails : (xs : List X) (place : ℕ) (x : X) → place < length xs → x ≡ get_or xs place x → passes x ≡ false → places_where passes (take place xs) ≡ places_where passes (take (place + 1) xs)
  step-fails xs place x there is truth =
      sym (append-nil (places_where passes (take place xs)))
      ∙ ap (λ b. places_where passes (take place xs) ++ cond b (place ∷ []) []) (sym truth) ∙ sym (places-step xs place x there is)

  pub places-below : (xs : List X) (many : ℕ) → length xs ≤ many → All (λ place. place < many) (places_where passes xs)
  places-below xs many fits =
      All-map (λ place. place < many) (λ p. p.0) (filter (λ p. passes p.1) (enumerate_from 0 xs))
      (All-filter (λ p. passes p.1) (λ p. p.0 < many) (enumerate_from 0 xs) (below 0 many xs (omega arith)))

  few : (n : ℕ) (xs : List X) → length (filter (λ p. passes p.1) (enumerate_from n xs)) ≤ length xs
  few n [] = omega arith
  few n (x ∷ xs) =
      let more : length (filter (λ p. passes p.1) (enumerate_from (n + 1) xs)) ≤ length xs = few (n + 1) xs in
      elim (passes x) as (λ b. length (cond b ((n, x) ∷ filter (λ p. passes p.1) (enumerate_from (n + 1) xs)) (filter (λ p. passes p.1) (enumerate_from (n + 1) xs))) ≤ length (x ∷ xs))
      [ true ↦ omega arith | false ↦ omega arith ]

  pub places-few : (xs : List X) → length (places_where passes xs) ≤ length xs
  places-few xs = omega (arith, few 0 xs, length-map (filter (λ p. passes p.1) (enumerate_from 0 xs)) (λ p. p.0))
