use Rattle.std.proofs.Common.{◌≡◌, ℕ, List, [], ◌∷◌, map, refl, ap}
use Rattle.std.specs.Prelude.{All}
use Rattle.std.proofs.lemmas.List.Elements.{All-nil, All-cons}
use Rattle.flowfile_record.specs.Kin.{pairs_named}
use Rattle.flowfile_record.proofs.law.kin_is_numbered_pairs.Goals as goal

unnumbered : (number : ℕ) (pairs : List (ℕ × ℕ)) → map (λ (kin : ℕ × ℕ × ℕ). (kin.0, kin.1)) (map (λ (pair : ℕ × ℕ). (pair.0, pair.1, number)) pairs) ≡ pairs
unnumbered number [] = refl
unnumbered number (pair ∷ pairs) = ap (λ rest. pair ∷ rest) (unnumbered number pairs)

numbered : (number : ℕ) (pairs : List (ℕ × ℕ)) → All (λ (kin : ℕ × ℕ × ℕ). kin.2 ≡ number) (map (λ (pair : ℕ × ℕ). (pair.0, pair.1, number)) pairs)
numbered number [] = All-nil (λ (kin : ℕ × ℕ × ℕ). kin.2 ≡ number)
numbered number (pair ∷ pairs) =
    All-cons (λ (kin : ℕ × ℕ × ℕ). kin.2 ≡ number) (pair.0, pair.1, number) (map (λ (pair : ℕ × ℕ). (pair.0, pair.1, number)) pairs) refl (numbered number pairs)

pub returns : goal.returns
returns c = record {
  pairs = λ event. unnumbered event.number (pairs_named event);
  number = λ event. numbered event.number (pairs_named event);
}
