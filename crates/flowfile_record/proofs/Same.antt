-- Attributes are told to be the same where they are.
use Rattle.std.proofs.Common.{◌≡◌, ℕ, ◌&&◌, true, List, [], ◌∷◌, map, bytes_eq, refl, sym, ◌∙◌, ap}
use Rattle.std.specs.Prelude.{◌↔◌}
use Rattle.std.specs.Cmp.Lexicographic.{pointwise}
use Rattle.std.specs.FinMap.{entries, same_entries_map}
use Rattle.std.proofs.lemmas.Bool.{and_parts, and_from}
use Rattle.std.specs.Cmp.Lexicographic.{same_text}
use Rattle.std.proofs.lemmas.Cmp.{nat_list_eq_equiv}
use Rattle.flowfile_record.specs.Attributes.{AttributeMap}
use Rattle.flowfile_record.specs.Outcome.{same_pairs, same_attributes}
use Rattle.flowfile_record.specs.HeldPairs.{key_and_value}
use Rattle.flowfile_record.specs.declared.attributes.Pair.{Pair}

pub pointwise-same_pairs : (pairs others : List Pair) → pointwise (λ pair other. bytes_eq pair.key other.key && bytes_eq pair.value other.value) pairs others ≡ same_pairs (map key_and_value pairs) (map key_and_value others)
pointwise-same_pairs [] [] = refl
pointwise-same_pairs [] (other ∷ others) = refl
pointwise-same_pairs (pair ∷ pairs) [] = refl
pointwise-same_pairs (pair ∷ pairs) (other ∷ others) = ap (λ b. (bytes_eq pair.key other.key && bytes_eq pair.value other.value) && b) (pointwise-same_pairs pairs others)

same_pairs-from : (these those : List (List ℕ × List ℕ)) → same_pairs these those ≡ true → these ≡ those
same_pairs-from [] [] e = refl
same_pairs-from [] (other ∷ others) e = absurd cc
same_pairs-from (pair ∷ pairs) [] e = absurd cc
same_pairs-from (pair ∷ pairs) (other ∷ others) e =
    let both = and_parts (bytes_eq pair.0 other.0 && bytes_eq pair.1 other.1) (same_pairs pairs others) e in
    let texts = and_parts (bytes_eq pair.0 other.0) (bytes_eq pair.1 other.1) both.0 in
    let key : pair.0 ≡ other.0 = same_text _ _ (sym texts.0) in
    let value : pair.1 ≡ other.1 = same_text _ _ (sym texts.1) in
    let rest = same_pairs-from pairs others both.1 in
    ap (λ (k : List ℕ). (k, pair.1) ∷ pairs) key ∙ ap (λ (v : List ℕ). (other.0, v) ∷ pairs) value ∙ ap (λ (l : List (List ℕ × List ℕ)). other ∷ l) rest

same_pairs-itself : (pairs : List (List ℕ × List ℕ)) → same_pairs pairs pairs ≡ true
same_pairs-itself [] = refl
same_pairs-itself (pair ∷ pairs) = and_from _ _ (and_from _ _ (nat_list_eq_equiv.refl pair.0) (nat_list_eq_equiv.refl pair.1)) (same_pairs-itself pairs)

pub same_attributes-decides : (a b : AttributeMap) → (same_attributes a b ≡ true) ↔ (a ≡ b)
same_attributes-decides a b = (
  λ e. same_entries_map a b (same_pairs-from (entries a) (entries b) e),
  λ e. ap (λ (m : AttributeMap). same_attributes a m) (sym e) ∙ same_pairs-itself (entries a),
)
