use Rattle.std.proofs.Common.{◌≤◌, length}
use denote.Text.{Utf8}
use denote.Shadow.{shadow}
use Rattle.std.specs.List.{flat_map, AllByRecursion}
use Rattle.expr_lang.specs.Grammar.{ArePieces}
use Rattle.expr_lang.specs.View.{piece_parts, HasParts}
use Rattle.expr_lang.proofs.reader.read_pieces.Given as goal

abbrev pub invariant-loop-pieces : goal.invariant-loop-pieces
invariant-loop-pieces l = record {
  text : shadow (Utf8 l.rest);
  so_far : ArePieces l.text (flat_map piece_parts l.pieces.items) l.rest;
  parts : AllByRecursion HasParts l.pieces.items;
  no_longer : length l.rest ≤ length l.text;
}

abbrev pub decreases-loop-pieces : goal.decreases-loop-pieces
decreases-loop-pieces l = length l.rest
