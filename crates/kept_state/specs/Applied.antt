-- What the entries of a log do to what is kept. Which files a batch has is told by `files`.
use Rattle.std.specs.Prelude.{ℕ, ◌+◌, ◌==◌, Bool, not, List, [], ◌∷◌, ◌++◌, length, map, filter}
use Rattle.std.specs.List.{sum, list_any, flat_map}
use Rattle.flowfile_record.specs.Counts.{with_count}
use Rattle.flowfile_record.specs.NumberedItems.{with_item, without_item}
use Rattle.flowfile_record.specs.Stored.{Kept}
use Rattle.flowfile_record.specs.declared.flow_file.FlowFile.{FlowFile}
use Rattle.flowfile_record.specs.declared.stored.ActiveFile.{ActiveFile}
use Rattle.flowfile_record.specs.declared.stored.SwapBatch.{SwapBatch}
use Rattle.record_codec.specs.ActiveFile.{active}
use Rattle.record_codec.specs.declared.entry.SessionEntry.{SessionEntry}
use Rattle.record_codec.specs.declared.entry.SwapOutEntry.{SwapOutEntry}
use Rattle.record_codec.specs.declared.entry.LogEntry.{LogEntry}
use Rattle.record_codec.specs.declared.entry.LogEntry.TheVariants.{Begin, Session, Expire, SwapOut, SwapIn, Age}
use Rattle.checkpoint_store.specs.Consistent.{record_size}

abbrev pub active_number : ActiveFile → ℕ
active_number a = a.file.number

-- whether the file's number is one of these
abbrev pub is_file_among : List ℕ → ActiveFile → Bool
is_file_among numbers a = list_any (λ n. n == a.file.number) numbers

-- the files without those of these numbers
abbrev pub left_after : List ℕ → List ActiveFile → List ActiveFile
left_after numbers files = filter (λ a. not (is_file_among numbers a)) files

-- the files of these numbers
abbrev pub named_in : List ℕ → List ActiveFile → List ActiveFile
named_in numbers files = filter (is_file_among numbers) files

-- the files and these, in the order of their numbers
abbrev pub with_files : List ActiveFile → List ActiveFile → List ActiveFile
with_files [] files = files
with_files (a ∷ placed) files = with_files placed (with_item active_number a files)

-- the batch of these files
abbrev pub batch_of : SwapOutEntry → List ActiveFile → SwapBatch
batch_of s files = record {
  connection = s.connection;
  batch = s.batch;
  files = length files;
  bytes = sum (map (λ a. a.file.content.size) files);
  encoded = sum (map record_size files);
}

abbrev pub session_applied : Kept → SessionEntry → Kept
session_applied k s = record k {
  counts = with_count s.generator k.counts;
  next_number = s.next_number;
  next_arrival = s.next_arrival;
  last_event = s.last_event;
  files = with_files s.placed (left_after s.gone k.files);
}

-- what is kept after an entry
abbrev pub applied : (files : ℕ → List FlowFile) → Kept → LogEntry → Kept
applied files k (Begin version log) = k
applied files k (Session s) = session_applied k s
applied files k (Expire e) = record k { last_event = e.last_event; files = left_after e.numbers k.files }
applied files k (SwapOut s) = record k {
  next_batch = s.batch + 1;
  files = left_after s.numbers k.files;
  batches = with_item (λ b. b.batch) (batch_of s (named_in s.numbers k.files)) k.batches;
}
applied files k (SwapIn connection batch) = record k {
  files = with_files (map (active connection) (files batch)) k.files;
  batches = without_item (λ b. b.batch) batch k.batches;
}
applied files k (Age line) = record k { line = line }

-- the batches that an entry swaps out
abbrev pub batch_swapped_out : LogEntry → List ℕ
batch_swapped_out (SwapOut s) = s.batch ∷ []
batch_swapped_out _ = []

-- the batches that matter: those that what is kept names, and those that an entry swaps out
abbrev pub batches_that_matter : Kept → List (ℕ × LogEntry) → List ℕ
batches_that_matter k entries = map (λ b. b.batch) k.batches ++ flat_map (λ e. batch_swapped_out e.1) entries
