-- Places of lists: what stands at one, and in an enumeration.
use Rattle.std.proofs.Common.{◌≡◌, inl, inr, ℕ, zero, suc, ◌+◌, ◌<◌, List, [], ◌∷◌, length, refl, ap, subst, arith}
use Rattle.std.specs.Prelude.{Some, slice_get}
use Rattle.std.specs.List.{enumerate_from}
use Rattle.machine_model.specs.Events.{number_at}
use Rattle.machine_model.specs.Placing.{SettledFile}
use Rattle.machine_model.proofs.Among.{Among}

-- a list has an element at a place
pub record IsAt {X : Type 0} (xs : List X) (place : ℕ) : Type 0 where
  pub element : X
  pub is : slice_get xs place ≡ Some element

pub at_place_below : {X : Type 0} (xs : List X) (place : ℕ) → place < length xs → IsAt xs place
at_place_below [] place l = absurd (omega arith)
at_place_below (x ∷ xs) zero l = record { element = x; is = refl }
at_place_below (x ∷ xs) (suc place) l = let rest = at_place_below xs place (omega arith) in record { element = rest.element; is = rest.is }

pub enumerated : {X : Type 0} (k : ℕ) (xs : List X) (place : ℕ) (x : X) → slice_get xs place ≡ Some x → Among (k + place, x) (enumerate_from k xs)
enumerated k [] place x is = cc
enumerated k (y ∷ xs) zero x is = let same : y ≡ x = cc in let here : k ≡ k + zero = omega arith in inl (pair_same k (k + zero) y x here same)
  where
    pair_same : {X : Type 0} (m n : ℕ) (y x : X) → m ≡ n → y ≡ x → ◌≡◌ {A = ℕ × X} (m, y) (n, x)
    pair_same m n y x p q = λ i. (p i, q i)
enumerated k (y ∷ xs) (suc place) x is =
    let same : k + 1 + place ≡ k + suc place = omega arith in
    inr (subst (λ m. Among (m, x) (enumerate_from (k + 1) xs)) same (enumerated (k + 1) xs place x is))

-- an element of an enumeration with its place in the list
pub record IsEnumerated {X : Type 0} (k : ℕ) (xs : List X) (numbered : ℕ × X) : Type 0 where
  pub place : ℕ
  pub number : numbered.0 ≡ k + place
  pub is : slice_get xs place ≡ Some numbered.1

pub place_of : {X : Type 0} (k : ℕ) (xs : List X) (numbered : ℕ × X) → Among numbered (enumerate_from k xs) → IsEnumerated k xs numbered
place_of k [] numbered h = absurd h
place_of k (x ∷ xs) numbered (inl is) = record { place = 0; number = omega (arith, ap (λ q. q.0) is); is = ap (λ q. Some q.1) is }
place_of k (x ∷ xs) numbered (inr h) =
    let rest = place_of (k + 1) xs numbered h in
    record { place = suc rest.place; number = omega (arith, rest.number); is = rest.is }

pub number-at : (files : List SettledFile) (place : ℕ) (file : SettledFile) → slice_get files place ≡ Some file → number_at files place ≡ file.number
number-at [] place file is = cc
number-at (first ∷ files) zero file is = let same : first ≡ file = cc in ap (λ f. f.number) same
number-at (first ∷ files) (suc place) file is = number-at files place file is
