-- The least of some numbers, over parts of them.
use Rattle.std.proofs.Common.{◌≡◌, ℕ, min, Bool, List, [], ◌∷◌, ◌++◌, map, refl, sym, ap, ◌∙◌, arith}
use Rattle.std.specs.Prelude.{Option, Some, None, filter}
use Rattle.std.specs.List.{cons_option, filter_map, flat_map, fold, reduce}
use Rattle.std.proofs.lemmas.List.{map-append}
use Rattle.std.proofs.lemmas.List.Elements.{filter-append}
use Rattle.std.proofs.lemmas.List.Sums.{fold-append}

lesser : Option ℕ → Option ℕ → Option ℕ
lesser None other = other
lesser (Some a) None = Some a
lesser (Some a) (Some b) = Some (min a b)

fold-min : (a b : ℕ) (ns : List ℕ) → fold min (min a b) ns ≡ min a (fold min b ns)
fold-min a b [] = refl
fold-min a b (n ∷ ns) = let same : min (min a b) n ≡ min a (min b n) = omega arith in ap (λ m. fold min m ns) same ∙ fold-min a (min b n) ns

least-append : (ns ms : List ℕ) → reduce min (ns ++ ms) ≡ lesser (reduce min ns) (reduce min ms)
unfolding lesser
least-append [] ms = refl
least-append (n ∷ ns) [] = ap (λ m. Some m) (fold-append min n ns [])
least-append (n ∷ ns) (m ∷ ms) = ap (λ k. Some k) (fold-append min n ns (m ∷ ms) ∙ fold-min (fold min n ns) m ms)

least-cons : (first : Option ℕ) (ns : List ℕ) → reduce min (cons_option first ns) ≡ lesser first (reduce min ns)
unfolding lesser
least-cons None ns = refl
least-cons (Some n) ns = least-append (n ∷ []) ns

module _ {X : Type 0} (part : X → List ℕ) where
  pub least-parts : (xs : List X) → reduce min (filter_map (λ x. reduce min (part x)) xs) ≡ reduce min (flat_map part xs)
  least-parts [] = refl
  least-parts (x ∷ xs) =
      least-cons (reduce min (part x)) (filter_map (λ y. reduce min (part y)) xs) ∙ ap (lesser (reduce min (part x))) (least-parts xs)
      ∙ sym (least-append (part x) (flat_map part xs))

module _ {X Y : Type 0} (part : X → List Y) (number : Y → ℕ) (test : ℕ → Bool) where
  pub filtered-parts : (xs : List X) → flat_map (λ x. filter test (map number (part x))) xs ≡ filter test (map number (flat_map part xs))
  filtered-parts [] = refl
  filtered-parts (x ∷ xs) =
      ap (λ ns. filter test (map number (part x)) ++ ns) (filtered-parts xs)
      ∙ sym (filter-append test (map number (part x)) (map number (flat_map part xs)))
      ∙ ap (filter test) (sym (map-append number (part x) (flat_map part xs)))
