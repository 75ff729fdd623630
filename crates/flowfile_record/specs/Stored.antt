-- What a store keeps, without the room of its lists.
use Rattle.std.specs.Prelude.{ℕ, List}
use Rattle.flowfile_record.specs.declared.stored.ActiveFile.{ActiveFile}
use Rattle.flowfile_record.specs.declared.stored.SwapBatch.{SwapBatch}
use Rattle.flowfile_record.specs.declared.stored.Stored.{Stored}

-- the fields of `Stored`, the files and the batches as plain lists
pub record Kept : Type 0 where
  pub store : ℕ
  pub flow : List ℕ
  pub connections : List (List ℕ)
  pub processors : List (List ℕ)
  pub counts : List ℕ
  pub next_number : ℕ
  pub next_arrival : ℕ
  pub last_event : ℕ
  pub line : ℕ
  pub next_batch : ℕ
  pub files : List ActiveFile
  pub batches : List SwapBatch

abbrev pub kept_of : Stored → Kept
kept_of stored = record {
  store = stored.store;
  flow = stored.flow;
  connections = stored.connections;
  processors = stored.processors;
  counts = stored.counts;
  next_number = stored.next_number;
  next_arrival = stored.next_arrival;
  last_event = stored.last_event;
  line = stored.line;
  next_batch = stored.next_batch;
  files = stored.files.items;
  batches = stored.batches.items;
}
