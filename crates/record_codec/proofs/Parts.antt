-- Parts, one behind the other, up to a place.
use Rattle.std.proofs.Common.{◌≡◌, ℕ, ◌+◌, ◌<◌, ◌≤◌, List, [], ◌∷◌, ◌++◌, length, get_or, take, drop, sym, ap, ◌∙◌, length-append, arith}
use Rattle.std.specs.List.{flat_map}
use Rattle.std.proofs.lemmas.List.{take_more, take-append-drop, append-nil}
use Rattle.std.proofs.lemmas.Grind.{flat_map-append}

module _ {X Y : Type 0} (f : X → List Y) (xs : List X) (i : ℕ) (d : X) (within : i < length xs) where
  pub one_part_more : flat_map f (take (i + 1) xs) ≡ flat_map f (take i xs) ++ f (get_or xs i d)
  one_part_more =
      ap (flat_map f) (take_more xs i d within) ∙ flat_map-append f (take i xs) (get_or xs i d ∷ [])
      ∙ ap (λ l. flat_map f (take i xs) ++ l) (append-nil (f (get_or xs i d)))

  -- those before a place and the one there are no longer than all
  pub parts_within : length (flat_map f (take i xs)) + length (f (get_or xs i d)) ≤ length (flat_map f xs)
  parts_within =
      let whole = ap (flat_map f) (sym (take-append-drop (i + 1) xs)) ∙ flat_map-append f (take (i + 1) xs) (drop (i + 1) xs) in
      omega (arith, ap length whole, ap length one_part_more, length-append (flat_map f (take (i + 1) xs)) (flat_map f (drop (i + 1) xs)), length-append (flat_map f (take i xs)) (f (get_or xs i d)))

-- those before a place are no longer than all
pub front_within : {X Y : Type 0} (f : X → List Y) (xs : List X) (i : ℕ) → length (flat_map f (take i xs)) ≤ length (flat_map f xs)
front_within f xs i =
    let whole = ap (flat_map f) (sym (take-append-drop i xs)) ∙ flat_map-append f (take i xs) (drop i xs) in
    omega (arith, ap length whole, length-append (flat_map f (take i xs)) (flat_map f (drop i xs)))
