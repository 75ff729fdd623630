use Rattle.std.proofs.Common.{◌≡◌, ◌≤◌, ◌∷◌, None, length, sym, subst, arith}
use Rattle.proc_text.specs.Pieces.{cut_size, piece_of, pieces_in}
use Rattle.proc_text.proofs.Cutting.{bytes-piece}
use Rattle.proc_text.proofs.pieces.first_piece.Goals as goal

pub returns-in-Bytes-clause-piece : goal.returns-in-Bytes-clause-piece
returns-in-Bytes-clause-piece c =
    let content = c.args.content.now in
    let size = c.in-Bytes.size in
    let front = c.split_at.result.0.now in
    let back = c.split_at.result.1.now in
    let some : 1 ≤ size = subst (λ cut. 1 ≤ cut_size cut) c.in-Bytes.is c.requires.some in
    subst (λ cut. pieces_in cut content ≡ piece_of (record { size = length front; lines = None }) ∷ pieces_in cut back) (sym c.in-Bytes.is)
    (bytes-piece size c.min.result content front back some c.requires.filled (λ fits. omega (arith, c.min.ensures, fits)) (λ fits. omega (arith, c.min.ensures, fits)) c.split_at.ensures.front c.split_at.ensures.back)
