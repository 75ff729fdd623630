-- That a file has one lineage.
use Rattle.std.proofs.Common.{◌≡◌, inl, inr, ℕ, ◌<◌, List, [], ◌∷◌, refl, sym, arith}
use Rattle.std.specs.Prelude.{◌↔◌}
use Rattle.std.specs.List.{AllPairs}
use Rattle.machine_model.specs.Laws.{LineageIsOnly}
use Rattle.machine_model.specs.Lineage.{Lists}
use Rattle.machine_model.proofs.Among.{Among, all_among, contains_among, among_contained}
use Rattle.machine_model.proofs.Ordered.{pairs_head, pairs_tail}

abbrev Less : ℕ → ℕ → Type 0
Less m n = m < n

-- of lists that ascend, each with the first number of the other, the first numbers are the same
first_same : (x y : ℕ) (xs ys : List ℕ) → AllPairs Less (x ∷ xs) → AllPairs Less (y ∷ ys) → Among x (y ∷ ys) → Among y (x ∷ xs) → x ≡ y
first_same x y xs ys up up' (inl is) h = sym is
first_same x y xs ys up up' (inr h) (inl is) = is
first_same x y xs ys up up' (inr h) (inr k) =
    let above : y < x = all_among (Less y) x ys (pairs_head Less y ys up') h in
    let below : x < y = all_among (Less x) y xs (pairs_head Less x xs up) k in
    absurd (omega arith)

-- what is in the rest of one list is in the rest of the other
in_rest : (x y n : ℕ) (xs ys : List ℕ) → AllPairs Less (x ∷ xs) → x ≡ y → Among n xs → Among n (y ∷ ys) → Among n ys
in_rest x y n xs ys up same h (inl is) = let above : x < n = all_among (Less x) n xs (pairs_head Less x xs up) h in absurd (omega arith)
in_rest x y n xs ys up same h (inr k) = k

same_numbers : (xs ys : List ℕ) → AllPairs Less xs → AllPairs Less ys → ((n : ℕ) → Among n xs ↔ Among n ys) → xs ≡ ys
same_numbers [] [] up up' same = refl
same_numbers [] (y ∷ ys) up up' same = absurd ((same y).1 (inl refl))
same_numbers (x ∷ xs) [] up up' same = absurd ((same x).0 (inl refl))
same_numbers (x ∷ xs) (y ∷ ys) up up' same =
    let first : x ≡ y = first_same x y xs ys up up' ((same x).0 (inl refl)) ((same y).1 (inl refl)) in
    let rest : xs ≡ ys = same_numbers xs ys (pairs_tail Less x xs up) (pairs_tail Less y ys up') (λ n. (
      λ h. in_rest x y n xs ys up first h ((same n).0 (inr h)),
      λ h. in_rest y x n ys xs up' (sym first) h ((same n).1 (inr h)),
    )) in
    λ i. first i ∷ rest i

one_list : (Holds : ℕ → Type 0) (xs ys : List ℕ) → Lists Holds xs → Lists Holds ys → xs ≡ ys
one_list Holds xs ys one other =
    same_numbers xs ys one.ascend other.ascend (λ n. (
      λ h. among_contained n ys ((other.just n).1 ((one.just n).0 (contains_among n xs h))),
      λ h. among_contained n xs ((one.just n).1 ((other.just n).0 (contains_among n ys h))),
    ))

pub lineage-only : LineageIsOnly
lineage-only events file one other is_one is_other =
    let ancestors = one_list _ one.ancestors other.ancestors is_one.ancestors is_other.ancestors in
    let descendants = one_list _ one.descendants other.descendants is_one.descendants is_other.descendants in
    let told = one_list _ one.events other.events is_one.told is_other.told in
    λ i. record { ancestors = ancestors i; descendants = descendants i; events = told i }
