-- SegmentContent: parts of so many bytes, the last one shorter. Parts to segments, which is 0, the file to original, 1.
-- A limit gives up to failure, 2.
use Rattle.std.specs.Prelude.{ℕ, List, [], ◌∷◌, length, map}
use Rattle.flowfile_record.specs.declared.worked.Outcome.{Outcome}
use Rattle.machine_model.specs.Making.{TakenFile, or_given_up}
use Rattle.machine_model.specs.Parts.{Piece, groups_of, parted}

abbrev pub bytes_together : List ℕ → Piece
bytes_together bytes = record { size = length bytes; told = [] }

abbrev pub segment : (size : ℕ) → TakenFile → Outcome
segment size file = or_given_up 2 (file ∷ []) (parted 1 0 file (map bytes_together (groups_of size file.bytes)))
