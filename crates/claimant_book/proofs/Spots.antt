-- What a list of spots has at a slot after a change.
use Rattle.std.proofs.Common.{◌≡◌, ◌≢◌, ℕ, zero, suc, List, [], ◌∷◌, map, get_or, refl, sym, ap, ◌∙◌}
use Rattle.std.proofs.Math.ListN.{get_or-map}
use Rattle.claimant_book.specs.declared.view.Role.{Role}
use Rattle.claimant_book.specs.declared.view.Role.TheVariants.{Keeping, Sharing, Noting, Spent}
use Rattle.claimant_book.specs.declared.view.Spot.{Spot}
use Rattle.claimant_book.specs.Views.{blank_spot, with_spot, told_spot, paired, joined_spot}

pub spot-here : (l : List Spot) (i : ℕ) (s : Spot) → get_or (with_spot l i s) i blank_spot ≡ s
spot-here [] zero s = refl
spot-here [] (suc i) s = spot-here [] i s
spot-here (x ∷ xs) zero s = refl
spot-here (x ∷ xs) (suc i) s = spot-here xs i s

pub spot-else : (l : List Spot) (i j : ℕ) (s : Spot) → j ≢ i → get_or (with_spot l i s) j blank_spot ≡ get_or l j blank_spot
spot-else [] zero zero s n = absurd (n refl)
spot-else [] zero (suc j) s n = refl
spot-else [] (suc i) zero s n = refl
spot-else [] (suc i) (suc j) s n = spot-else [] i j s (λ e. n (ap suc e))
spot-else (x ∷ xs) zero zero s n = absurd (n refl)
spot-else (x ∷ xs) zero (suc j) s n = refl
spot-else (x ∷ xs) (suc i) zero s n = refl
spot-else (x ∷ xs) (suc i) (suc j) s n = spot-else xs i j s (λ e. n (ap suc e))

pub spot-told : (l : List Spot) (i : ℕ) → get_or (map told_spot l) i blank_spot ≡ told_spot (get_or l i blank_spot)
spot-told l i = get_or-map told_spot l i blank_spot

module _ (f : Spot → Spot → Spot) (z : f blank_spot blank_spot ≡ blank_spot) where
  spot-paired : (xs ys : List Spot) (i : ℕ) → get_or (paired f xs ys) i blank_spot ≡ f (get_or xs i blank_spot) (get_or ys i blank_spot)
  spot-paired [] ys i = ap (λ d. get_or (map (f blank_spot) ys) i d) (sym z) ∙ get_or-map (f blank_spot) ys i blank_spot
  spot-paired (x ∷ xs) [] i = ap (λ d. get_or (map (λ y. f y blank_spot) (x ∷ xs)) i d) (sym z) ∙ get_or-map (λ y. f y blank_spot) (x ∷ xs) i blank_spot
  spot-paired (x ∷ xs) (y ∷ ys) zero = refl
  spot-paired (x ∷ xs) (y ∷ ys) (suc i) = spot-paired xs ys i

blank_joined : (r : Role) → joined_spot r blank_spot blank_spot ≡ blank_spot
blank_joined Keeping = refl
blank_joined Sharing = refl
blank_joined Noting = refl
blank_joined Spent = refl

pub spot-joined : (r : Role) (xs ys : List Spot) (i : ℕ) → get_or (paired (joined_spot r) xs ys) i blank_spot ≡ joined_spot r (get_or xs i blank_spot) (get_or ys i blank_spot)
spot-joined r xs ys i = spot-paired (joined_spot r) (blank_joined r) xs ys i

pub joined-held : (r : Role) (a b : Spot) → (joined_spot r a b).held ≡ a.held
joined-held Keeping a b = refl
joined-held Sharing a b = refl
joined-held Noting a b = refl
joined-held Spent a b = refl
