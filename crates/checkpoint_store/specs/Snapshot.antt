-- The bytes of a snapshot: a Head, the files by their numbers, the batches by theirs, and an End.
use Rattle.std.specs.Prelude.{ℕ, ◌+◌, List, ◌++◌, length}
use Rattle.std.specs.List.{flat_map}
use Rattle.disk_trait.specs.Files.{named}
use Rattle.disk_trait.specs.declared.file_name.FileName.{FileName}
use Rattle.disk_trait.specs.declared.file_name.FileKind.TheVariants as files
use Rattle.flowfile_record.specs.Stored.{Kept}
use Rattle.flowfile_record.specs.declared.stored.ActiveFile.{ActiveFile}
use Rattle.flowfile_record.specs.declared.stored.SwapBatch.{SwapBatch}
use Rattle.record_codec.specs.ActiveFile.{active_file}
use Rattle.record_codec.specs.Block.{block}
use Rattle.record_codec.specs.Snapshot.{kind_code, swap_batch, ending}
use Rattle.record_codec.specs.StoreHead.{head}
use Rattle.record_codec.specs.declared.head.Head.{Head}
use Rattle.record_codec.specs.declared.snapshot.SnapshotKind.TheVariants as kinds

-- the snapshot of this number
abbrev pub snapshot_file : ℕ → FileName
snapshot_file number = named files.Snapshot number

-- what the Head says of what is kept
abbrev pub head_in : (version : ℕ) → Kept → Head
head_in version k = record {
  version = version;
  store = k.store;
  flow = k.flow;
  connections = k.connections;
  processors = k.processors;
  counts = k.counts;
  next_number = k.next_number;
  next_arrival = k.next_arrival;
  last_event = k.last_event;
  line = k.line;
  next_batch = k.next_batch;
}

abbrev pub head_block : (version : ℕ) → Kept → List ℕ
head_block version k = block (kind_code kinds.Head) (head (head_in version k))

abbrev pub file_block : ActiveFile → List ℕ
file_block a = block (kind_code kinds.File) (active_file a)

abbrev pub batch_block : SwapBatch → List ℕ
batch_block b = block (kind_code kinds.Batch) (swap_batch b)

-- an End behind so many blocks
abbrev pub end_block : ℕ → List ℕ
end_block blocks = block (kind_code kinds.End) (ending blocks)

-- how many blocks stand before the End
abbrev pub blocks_in : Kept → ℕ
blocks_in k = 1 + length k.files + length k.batches

abbrev pub snapshot : (version : ℕ) → Kept → List ℕ
snapshot version k =
    head_block version k ++ flat_map file_block k.files ++ flat_map batch_block k.batches ++ end_block (blocks_in k)

-- where the files end, and the first batch begins
abbrev pub files_end : (version : ℕ) → Kept → ℕ
files_end version k = length (head_block version k ++ flat_map file_block k.files)
