-- Lists that are made of others.
use Rattle.std.proofs.Common.{◌≡◌, ℕ, zero, suc, ◌+◌, Bool, true, false, cond, List, [], ◌∷◌, ◌++◌, map, refl, ap, ◌∙◌}
use Rattle.std.specs.Prelude.{filter, slice_get, fold}
use Rattle.std.specs.List.{flat_map, enumerate_from}
use Rattle.std.specs.Option.{option_map}
use Rattle.std.proofs.lemmas.List.{map-append}

pub map-map : {X Y Z : Type 0} (f : Y → Z) (g : X → Y) (xs : List X) → map f (map g xs) ≡ map (λ x. f (g x)) xs
map-map f g [] = refl
map-map f g (x ∷ xs) = ap (λ ys. f (g x) ∷ ys) (map-map f g xs)

pub filter-map : {X Y : Type 0} (p : Y → Bool) (g : X → Y) (xs : List X) → filter p (map g xs) ≡ map g (filter (λ x. p (g x)) xs)
filter-map p g [] = refl
filter-map p g (x ∷ xs) =
    elim (p (g x)) as (λ b. cond b (g x ∷ filter p (map g xs)) (filter p (map g xs)) ≡ map g (cond b (x ∷ filter (λ x. p (g x)) xs) (filter (λ x. p (g x)) xs))) [
      | true ↦ ap (λ ys. g x ∷ ys) (filter-map p g xs)
      | false ↦ filter-map p g xs
    ]

pub filter-append : {X : Type 0} (p : X → Bool) (xs ys : List X) → filter p (xs ++ ys) ≡ filter p xs ++ filter p ys
filter-append p [] ys = refl
filter-append p (x ∷ xs) ys =
    elim (p x) as (λ b. cond b (x ∷ filter p (xs ++ ys)) (filter p (xs ++ ys)) ≡ cond b (x ∷ filter p xs) (filter p xs) ++ filter p ys) [
      | true ↦ ap (λ zs. x ∷ zs) (filter-append p xs ys)
      | false ↦ filter-append p xs ys
    ]

pub get-map : {X Y : Type 0} (g : X → Y) (xs : List X) (place : ℕ) → slice_get (map g xs) place ≡ option_map g (slice_get xs place)
get-map g [] place = refl
get-map g (x ∷ xs) zero = refl
get-map g (x ∷ xs) (suc place) = get-map g xs place

pub flat_map-same : {X Y : Type 0} (f g : X → List Y) → ((x : X) → f x ≡ g x) → (xs : List X) → flat_map f xs ≡ flat_map g xs
flat_map-same f g each xs = ap (λ h. flat_map h xs) (λ i x. each x i)

pub flat_map-map : {X Y Z : Type 0} (f : Y → List Z) (g : X → Y) (xs : List X) → flat_map f (map g xs) ≡ flat_map (λ x. f (g x)) xs
flat_map-map f g [] = refl
flat_map-map f g (x ∷ xs) = ap (λ ys. f (g x) ++ ys) (flat_map-map f g xs)

pub map-flat_map : {X Y Z : Type 0} (f : Y → Z) (g : X → List Y) (xs : List X) → map f (flat_map g xs) ≡ flat_map (λ x. map f (g x)) xs
map-flat_map f g [] = refl
map-flat_map f g (x ∷ xs) = map-append f (g x) (flat_map g xs) ∙ ap (λ ys. map f (g x) ++ ys) (map-flat_map f g xs)

-- what is made of each, where both are told by their places
pub enumerated-map : {X Y Z : Type 0} (r : ℕ × Y → List Z) (m : ℕ × X → List Z) (g : X → Y) → ((k : ℕ) (x : X) → r (k, g x) ≡ m (k, x)) → (k : ℕ) (xs : List X)
    → flat_map r (enumerate_from k (map g xs)) ≡ flat_map m (enumerate_from k xs)
enumerated-map r m g each k [] = refl
enumerated-map r m g each k (x ∷ xs) =
    ap (λ ys. ys ++ flat_map r (enumerate_from (k + 1) (map g xs))) (each k x) ∙ ap (λ ys. m (k, x) ++ ys) (enumerated-map r m g each (k + 1) xs)

pub enumerated-each : {X Y Z : Type 0} (r : ℕ × Y → List Z) (m : X → List Z) (g : X → Y) → ((k : ℕ) (x : X) → r (k, g x) ≡ m x) → (k : ℕ) (xs : List X)
    → flat_map r (enumerate_from k (map g xs)) ≡ flat_map m xs
enumerated-each r m g each k [] = refl
enumerated-each r m g each k (x ∷ xs) =
    ap (λ ys. ys ++ flat_map r (enumerate_from (k + 1) (map g xs))) (each k x) ∙ ap (λ ys. m x ++ ys) (enumerated-each r m g each (k + 1) xs)

pub fold-append : {A X : Type 0} (f : A → X → A) (a : A) (xs ys : List X) → fold f a (xs ++ ys) ≡ fold f (fold f a xs) ys
fold-append f a [] ys = refl
fold-append f a (x ∷ xs) ys = fold-append f (f a x) xs ys
