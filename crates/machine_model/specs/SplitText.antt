-- SplitText: a line ends behind a line feed, or at the content's end. Each group of so many lines is a part, which is
-- told how many lines it has. Parts to splits, which is 1, the file to original, 0. A limit gives up to failure, 2.
use Rattle.std.specs.Prelude.{ℕ, ◌==◌, List, [], ◌∷◌, length, map, sum_by, codes, decimal, if◌then◌else◌}
use Rattle.flowfile_record.specs.declared.worked.Outcome.{Outcome}
use Rattle.machine_model.specs.Making.{TakenFile, or_given_up}
use Rattle.machine_model.specs.Parts.{Piece, groups_of, parted}

abbrev line_feed : ℕ
line_feed = 10

-- a byte at the front of the first line
abbrev pub on_first_line : ℕ → List (List ℕ) → List (List ℕ)
on_first_line byte [] = (byte ∷ []) ∷ []
on_first_line byte (line ∷ lines) = (byte ∷ line) ∷ lines

abbrev pub lines_of : List ℕ → List (List ℕ)
lines_of [] = []
lines_of (byte ∷ bytes) =
    if byte == line_feed then (byte ∷ []) ∷ lines_of bytes else on_first_line byte (lines_of bytes)

abbrev pub lines_together : List (List ℕ) → Piece
lines_together lines =
    record { size = sum_by length lines; told = (codes "text.line.count", decimal (length lines)) ∷ [] }

abbrev pub split : (lines : ℕ) → TakenFile → Outcome
split lines file =
    or_given_up 2 (file ∷ []) (parted 0 1 file (map lines_together (groups_of lines (lines_of file.bytes))))
