-- The pieces of a content and their parts, as the calls below `part` come to them.
use Rattle.std.proofs.Common.{◌≡◌, ℕ, ◌+◌, ◌<◌, ◌≤◌, List, [], ◌∷◌, ◌++◌, length, map, drop, take, get_or, add-one, drop-cons, None, sym, ◌∙◌, ap, arith, sum_by}
use Rattle.std.specs.Prelude.{is_none, slice_get}
use Rattle.std.proofs.lemmas.List.{length-map, take_more}
use Rattle.std.proofs.lemmas.List.Sums.{sum_by-append, sum_by-cons, sum_by-take-le}
use Rattle.machine_model.specs.Parts.{fragment_pairs}
use Rattle.process_session.specs.Bench.{Bench, taken_file}
use Rattle.process_session.specs.Reasons.{no_bytes}
use Rattle.process_session.specs.Refusals.{refusal_of_content}
use Rattle.process_session.proofs.Refusing.{no_refusal}
use Rattle.processor_api.specs.Sessions.{BeganWithOne}
use Rattle.proc_text.specs.declared.parting.Whole.{Whole}
use Rattle.proc_text.specs.declared.pieces.Piece.{Piece as CutPiece}
use Rattle.proc_text.specs.Parting.{IsReadTaken, TellsOfParts, fragments_by, taken_in}
use Rattle.proc_text.specs.Pieces.{lines_told, piece_of}
use Rattle.processor_api.proofs.Clones.{known, next, none_holds}
use Rattle.proc_text.proofs.Cutting.{size_of}

-- ---- the pieces, one after another

pub left-next : (pieces : List CutPiece) (place : ℕ) (other : CutPiece) → place < length pieces → map piece_of (drop place pieces) ≡ piece_of (get_or pieces place other) ∷ map piece_of (drop (place + 1) pieces)
left-next pieces place other there =
    let left : drop place pieces ≡ get_or pieces place other ∷ drop (place + 1) pieces = rw add-one (drop-cons pieces place other there) in
    ap (map piece_of) left

pub offset-next : (pieces : List CutPiece) (place offset : ℕ) (other : CutPiece) → place < length pieces → offset ≡ sum_by size_of (take place pieces) → offset + (get_or pieces place other).size ≡ sum_by size_of (take (place + 1) pieces)
offset-next pieces place offset other there sum =
    let piece = get_or pieces place other in
    let sums : sum_by size_of (take (place + 1) pieces) ≡ sum_by size_of (take place pieces) + sum_by size_of (piece ∷ []) =
    ap (sum_by size_of) (take_more pieces place other there) ∙ sum_by-append size_of (take place pieces) (piece ∷ []) in
    omega (arith, sum, sums, sum_by-cons size_of piece [])

pub piece-fits : (pieces : List CutPiece) (place offset limit : ℕ) (other : CutPiece) → place < length pieces → offset ≡ sum_by size_of (take place pieces) → sum_by size_of pieces ≤ limit → offset + (get_or pieces place other).size ≤ limit
piece-fits pieces place offset limit other there sum fits = omega (arith, offset-next pieces place offset other there sum, sum_by-take-le size_of pieces (place + 1), fits)

pub told-is : (whole : Whole) (before : Bench) (pieces : List CutPiece) (piece : CutPiece) (index : ℕ) → TellsOfParts whole before (length pieces)
    → lines_told piece.lines ++ fragments_by whole index ≡ (piece_of piece).told ++ fragment_pairs (taken_in before) index (length (map piece_of pieces))
told-is whole before pieces piece index tells =
    ap (λ ps. lines_told piece.lines ++ ps) (tells index ∙ ap (fragment_pairs (taken_in before) index) (sym (length-map pieces piece_of)))

-- ---- the content

pub content-there : (bench : Bench) → BeganWithOne bench → IsReadTaken bench → refusal_of_content bench 0 ≡ None
unfolding no_bytes
content-there bench took read =
    next _ _ (known bench 0 (taken_file 0 took.taken) (ap (λ (b : Bench). slice_get b.files 0) took.begun)) (next _ _ (none_holds _ _ (ap is_none read.bytes)) no_refusal)
