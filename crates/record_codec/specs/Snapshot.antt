-- How the other blocks of a snapshot are encoded, and what has an encoding. Numbers are big-endian.
use Rattle.std.specs.Prelude.{ℕ, ◌<◌, ◌^◌, List, ◌++◌}
use Rattle.std.specs.Int.{w16, w64, to_be_bytes}
use Rattle.flowfile_record.specs.Encoding.{IsNumber}
use Rattle.flowfile_record.specs.declared.stored.SwapBatch.{SwapBatch}
use Rattle.record_codec.specs.declared.snapshot.SnapshotKind.{SnapshotKind}
use Rattle.record_codec.specs.declared.snapshot.SnapshotKind.TheVariants as kinds

-- the kind of the block that holds it
abbrev pub kind_code : SnapshotKind → ℕ
kind_code kinds.Head = 10
kind_code kinds.File = 11
kind_code kinds.Batch = 12
kind_code kinds.End = 13

unfoldable pub swap_batch : SwapBatch → List ℕ
swap_batch b = to_be_bytes w16 b.connection ++ to_be_bytes w64 b.batch ++ to_be_bytes w64 b.files
    ++ to_be_bytes w64 b.bytes ++ to_be_bytes w64 b.encoded

-- a batch that has an encoding
pub record IsBatch (b : SwapBatch) : Type 0 where
  pub connection : b.connection < 2 ^ 16
  pub batch : IsNumber b.batch
  pub files : IsNumber b.files
  pub bytes : b.bytes < 2 ^ 64
  pub encoded : b.encoded < 2 ^ 64

-- the number of the blocks before the end
abbrev pub ending : ℕ → List ℕ
ending blocks = to_be_bytes w64 blocks

abbrev pub IsEnding : ℕ → Type 0
IsEnding blocks = blocks < 2 ^ 64
