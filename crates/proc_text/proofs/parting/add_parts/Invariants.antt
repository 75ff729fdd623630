use Rattle.std.proofs.Common.{◌≡◌, ℕ, drop, map, sum_by, take}
use Rattle.proc_text.specs.Pieces.{piece_of}
use Rattle.proc_text.proofs.Cutting.{size_of}
use Rattle.proc_text.proofs.PartList.{Adding}
use Rattle.proc_text.proofs.parting.add_parts.Given as goal

abbrev pub invariant-loop-place : goal.invariant-loop-place
invariant-loop-place l = record {
  adding : (relationship : ℕ) → Adding l.fn.session l.session relationship (map piece_of l.pieces) (map piece_of (drop l.place l.pieces)) l.place l.offset;
  offset : l.offset ≡ sum_by size_of (take l.place l.pieces);
}
