-- The program's pieces as parts.
use Rattle.std.proofs.Common.{◌≡◌, ℕ, ◌<◌, true, false, List, [], ◌∷◌, ◌++◌, length, map, refl, ap, sym, ◌∙◌, arith, append_assoc, string_bytes}
use Rattle.std.specs.List.{flat_map, AllByRecursion}
use Rattle.std.proofs.lemmas.Bool.{true≢false}
use Rattle.std.proofs.lemmas.List.{append-nil}
use Rattle.expr_lang.specs.declared.syntax.Embedded.{Embedded}
use Rattle.expr_lang.specs.declared.syntax.Piece.{Piece}
use Rattle.expr_lang.specs.declared.syntax.Piece.TheVariants.{Plain, Computed}
use Rattle.expr_lang.specs.Tree.{Part, byte, embedded, joined, tree_of_parts}
use Rattle.expr_lang.specs.View.{piece_parts, HasParts, is_one_computed, term_of}

more_parts : (t : Part) (piece : Piece) (rest : List Part) → HasParts piece → tree_of_parts (t ∷ (piece_parts piece ++ rest)) ≡ joined (t ∷ (piece_parts piece ++ rest))
more_parts t (Plain s) rest has = by_bytes t (string_bytes s) has
  where
    by_bytes : (t : Part) (bytes : List ℕ) → 0 < length (map byte bytes) → tree_of_parts (t ∷ (map byte bytes ++ rest)) ≡ joined (t ∷ (map byte bytes ++ rest))
    by_bytes t [] has = absurd (omega arith)
    by_bytes (byte c) (b ∷ bytes) has = refl
    by_bytes (embedded e) (b ∷ bytes) has = refl
more_parts (byte c) (Computed e) rest has = refl
more_parts (embedded t) (Computed e) rest has = refl

plain_parts : (bytes : List ℕ) (rest : List Part) → 0 < length (map byte bytes) → tree_of_parts (map byte bytes ++ rest) ≡ joined (map byte bytes ++ rest)
plain_parts [] rest has = absurd (omega arith)
plain_parts (b ∷ bytes) rest has = refl

-- what isn't one embedded expression alone is joined
pub joined_pieces : (pieces : List Piece) → AllByRecursion HasParts pieces → is_one_computed pieces ≡ false → tree_of_parts (flat_map piece_parts pieces) ≡ joined (flat_map piece_parts pieces)
joined_pieces [] has other = refl
joined_pieces (Plain s ∷ pieces) has other = plain_parts (string_bytes s) (flat_map piece_parts pieces) has.0
joined_pieces (Computed e ∷ []) has other = absurd (true≢false other)
joined_pieces (Computed e ∷ piece ∷ pieces) has other = more_parts (embedded (term_of e)) piece (flat_map piece_parts pieces) has.1.0

-- the last piece of one
pub last_of_one : (pieces front : List Piece) (piece : Piece) → is_one_computed pieces ≡ true → pieces ≡ front ++ (piece ∷ []) → (e : Embedded) × (piece ≡ Computed e) × (pieces ≡ Computed e ∷ [])
last_of_one [] front piece one split = absurd (true≢false (sym one))
last_of_one (Plain s ∷ pieces) front piece one split = absurd (true≢false (sym one))
last_of_one (Computed e ∷ piece' ∷ pieces) front piece one split = absurd (true≢false (sym one))
last_of_one (Computed e ∷ []) [] piece one split = (e, cc, refl)
last_of_one (Computed e ∷ []) (first ∷ front) piece one split = absurd (longer front (ap length split))
  where
    longer : (front : List Piece) → 1 ≡ length (first ∷ (front ++ (piece ∷ []))) → ⊥
    longer [] h = absurd (omega arith)
    longer (x ∷ xs) h = absurd (omega arith)

pub flat_map_push : (pieces : List Piece) (piece : Piece) → flat_map piece_parts (pieces ++ (piece ∷ [])) ≡ flat_map piece_parts pieces ++ piece_parts piece
flat_map_push [] piece = append-nil (piece_parts piece)
flat_map_push (first ∷ pieces) piece =
    ap (λ (l : List Part). piece_parts first ++ l) (flat_map_push pieces piece) ∙ sym (append_assoc (piece_parts first) (flat_map piece_parts pieces) (piece_parts piece))

pub has_parts_push : (pieces : List Piece) (piece : Piece) → AllByRecursion HasParts pieces → HasParts piece → AllByRecursion HasParts (pieces ++ (piece ∷ []))
has_parts_push [] piece all has = (has, tt)
has_parts_push (first ∷ pieces) piece all has = (all.0, has_parts_push pieces piece all.1 has)
