-- The bytes of a swap file: the files of a batch by their numbers, and an End.
use Rattle.std.specs.Prelude.{◌≡◌, ℕ, List, ◌++◌, length, All}
use Rattle.std.specs.List.{flat_map}
use Rattle.disk_trait.specs.Files.{named}
use Rattle.disk_trait.specs.declared.file_name.FileName.{FileName}
use Rattle.disk_trait.specs.declared.file_name.FileKind.TheVariants as files
use Rattle.flowfile_record.specs.NumberedItems.{AscendsByNumber}
use Rattle.flowfile_record.specs.declared.flow_file.FlowFile.{FlowFile}
use Rattle.record_codec.specs.ActiveFile.{active, active_file}
use Rattle.record_codec.specs.Block.{block}
use Rattle.record_codec.specs.FileEncoding.{IsFlowFile}
use Rattle.record_codec.specs.Snapshot.{kind_code, ending}
use Rattle.record_codec.specs.declared.snapshot.SnapshotKind.TheVariants as kinds

-- the swap file of this batch
abbrev pub swap_file : ℕ → FileName
swap_file batch = named files.Swap batch

-- a file's block, whose connection is 0: which queue the batch is of stands elsewhere
abbrev pub swapped_block : FlowFile → List ℕ
swapped_block f = block (kind_code kinds.File) (active_file (active 0 f))

-- an End behind so many blocks
abbrev pub closing_block : ℕ → List ℕ
closing_block count = block (kind_code kinds.End) (ending count)

abbrev pub batch_bytes : List FlowFile → List ℕ
batch_bytes files = flat_map swapped_block files ++ closing_block (length files)

-- files that may be swapped out together: each has an encoding, and their numbers ascend
pub record IsSwapBatch (files : List FlowFile) : Type 0 where
  pub encoded : All IsFlowFile files
  pub ascends : AscendsByNumber (λ f. f.number) files

-- these bytes are those of the files' batch
pub record AreBatchBytes (files : List FlowFile) (bytes : List ℕ) : Type 0 where
  pub batch : IsSwapBatch files
  pub encoded : bytes ≡ batch_bytes files
