-- What a content is cut into.
use Rattle.std.specs.Prelude.{◌≡◌, ◌≤◌, ◌+◌, ℕ, List, [], ◌∷◌, length, map, nat_lt, Option, None, Some, codes, decimal, if◌then◌else◌}
use Rattle.flowfile_record.specs.declared.limits.TheConstants.{FILES_MAX}
use Rattle.machine_model.specs.Parts.{Piece, groups_of}
use Rattle.machine_model.specs.SegmentContent.{bytes_together}
use Rattle.machine_model.specs.SplitText.{lines_of, lines_together}
use Rattle.proc_text.specs.declared.pieces.Cut.{Cut}
use Rattle.proc_text.specs.declared.pieces.Cut.TheVariants.{Bytes, Lines}
use Rattle.proc_text.specs.declared.pieces.Piece.{Piece as CutPiece}

abbrev pub cut_size : Cut → ℕ
cut_size (Bytes size) = size
cut_size (Lines lines) = lines

abbrev pub pieces_in : Cut → List ℕ → List Piece
pieces_in (Bytes size) bytes = map bytes_together (groups_of size bytes)
pieces_in (Lines lines) bytes = map lines_together (groups_of lines (lines_of bytes))

-- where a session may have a file for each of them beside the one that it took
abbrev pub few_pieces : List Piece → Option (List Piece)
few_pieces pieces = if nat_lt (length pieces) FILES_MAX then Some pieces else None

abbrev pub lines_told : Option ℕ → List (List ℕ × List ℕ)
lines_told None = []
lines_told (Some lines) = (codes "text.line.count", decimal lines) ∷ []

abbrev pub piece_of : CutPiece → Piece
piece_of piece = record { size = piece.size; told = lines_told piece.lines }

-- what stands behind the first line of a content
pub record IsBehindLine (content rest : List ℕ) : Type 0 where
  pub line : List ℕ
  pub lines : lines_of content ≡ line ∷ lines_of rest
  pub size : length line + length rest ≡ length content
  pub some : 1 ≤ length line
