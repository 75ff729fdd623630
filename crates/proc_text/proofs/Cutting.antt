-- A content cut into pieces, one after another.
use Rattle.std.proofs.Common.{◌≡◌, ℕ, ◌+◌, ◌<◌, ◌≤◌, inl, inr, List, [], ◌∷◌, ◌++◌, length, map, take, drop, None, sym, ◌∙◌, ap, arith, sum_by}
use Rattle.std.proofs.lemmas.Bool.{cases_lt}
use Rattle.std.proofs.lemmas.List.{drop_all, take_all}
use Rattle.flowfile_record.specs.declared.limits.TheConstants.{FILES_MAX}
use Rattle.machine_model.specs.Parts.{groups_of}
use Rattle.machine_model.specs.SegmentContent.{bytes_together}
use Rattle.machine_model.proofs.Cuts.{groups-step}
use Rattle.proc_text.specs.declared.pieces.Cut.{Cut}
use Rattle.proc_text.specs.declared.pieces.Cut.TheVariants.{Bytes}
use Rattle.proc_text.specs.declared.pieces.Piece.{Piece as CutPiece}
use Rattle.proc_text.specs.Pieces.{piece_of, pieces_in}

-- ---- bytes

pub bytes-first : (size : ℕ) (content : List ℕ) → 1 ≤ size → 0 < length content
    → map bytes_together (groups_of size content) ≡ record { size = length (take size content); told = [] } ∷ map bytes_together (groups_of size (drop size content))
bytes-first size [] some filled = absurd (omega (arith, filled))
bytes-first size (byte ∷ bytes) some filled = ap (map bytes_together) (groups-step size byte bytes some)

-- so many bytes, or all
cut-at : (size m : ℕ) (content : List ℕ) → (size ≤ length content → m ≡ size) → (length content ≤ size → m ≡ length content) → (take m content ≡ take size content) × (drop m content ≡ drop size content)
cut-at size m content many few = elim (cases_lt (length content) size) [
  | inl less ↦
      let is = few (omega (arith, less)) in
      (take_all m content (omega (arith, is)) ∙ sym (take_all size content (omega (arith, less))), drop_all m content (omega (arith, is)) ∙ sym (drop_all size content (omega (arith, less))))
  | inr more ↦
      let is = many more in
      (ap (λ n. take n content) is, ap (λ n. drop n content) is)
]

pub bytes-piece : (size m : ℕ) (content front back : List ℕ) → 1 ≤ size → 0 < length content → (size ≤ length content → m ≡ size) → (length content ≤ size → m ≡ length content) → front ≡ take m content → back ≡ drop m content
    → pieces_in (Bytes size) content ≡ piece_of (record { size = length front; lines = None }) ∷ pieces_in (Bytes size) back
bytes-piece size m content front back some filled many few front-is back-is =
    let cut = cut-at size m content many few in
    let front-all : front ≡ take size content = front-is ∙ cut.0 in
    let back-all : back ≡ drop size content = back-is ∙ cut.1 in
    bytes-first size content some filled
    ∙ (λ i. record { size = length (sym front-all i); told = [] } ∷ map bytes_together (groups_of size (sym back-all i)))

-- ---- all pieces

abbrev pub size_of : CutPiece → ℕ
size_of piece = piece.size

-- these pieces, and those of the rest
pub record Cutting (cut : Cut) (content : List ℕ) (pieces : List CutPiece) (rest : List ℕ) : Type 0 where
  pub same : map piece_of pieces ++ pieces_in cut rest ≡ pieces_in cut content
  pub few : length pieces < FILES_MAX
  pub sizes : sum_by size_of pieces + length rest ≡ length content
