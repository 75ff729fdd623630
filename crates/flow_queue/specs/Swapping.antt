-- Batches of a queue's files: which one is due, and what swapping them out and in changes.
use Rattle.std.specs.Prelude.{◌≡◌, ◌≢◌, ℕ, ◌+◌, ◌-◌, Bool, true, false, not, List, length, map, filter, All, Option, Some, None, drop, nat_le, sum_by, if◌then◌else◌}
use Rattle.std.specs.List.{AllPairs}
use Rattle.std.specs.Option.{option_map_or}
use Rattle.flowfile_record.specs.NumberedItems.{item_of, with_item, with_items, without_item}
use Rattle.flowfile_record.specs.declared.flow_file.FlowFile.{FlowFile}
use Rattle.machine_model.specs.declared.flow.QueueLimits.{QueueLimits}
use Rattle.machine_model.specs.Due.{batch_size, last_batch}
use Rattle.machine_model.specs.Files.{are_distinct}
use Rattle.flow_queue.specs.declared.batch.Batch.{Batch}
use Rattle.flow_queue.specs.declared.held.Held.{Held}
use Rattle.flow_queue.specs.Leaving.{files_going, files_staying}
use Rattle.flow_queue.specs.Queue.{QueueState, IsApart, IsAtRest, held_number, held_bytes, queue_as_seen}

abbrev pub number_of_batch : Batch → ℕ
number_of_batch batch = batch.number

-- the batch of a number
abbrev pub batch_in : QueueState → ℕ → Option Batch
batch_in queue batch = item_of number_of_batch batch queue.batches

abbrev pub with_batch : Batch → List Batch → List Batch
with_batch batch batches = with_item number_of_batch batch batches

abbrev pub without_batch : ℕ → List Batch → List Batch
without_batch batch batches = without_item number_of_batch batch batches

-- ---- what goes out

-- the numbers of the files that have to go
abbrev pub batch_due : QueueState → Option (List ℕ)
batch_due queue = last_batch queue.order queue.limits (queue_as_seen queue).active

-- files of the queue that no session works on, each named once
pub record MayGoOut (queue : QueueState) (numbers : List ℕ) : Type 0 where
  pub at_rest : All (IsAtRest queue) numbers
  pub distinct : are_distinct numbers ≡ true

-- the batch of some files
abbrev pub batch_of_files : ℕ → List ℕ → List Held → Batch
batch_of_files batch numbers files =
    record { number = batch; files = length numbers; bytes = sum_by held_bytes (files_going numbers files) }

abbrev pub swapped_out_of : QueueState → ℕ → List ℕ → QueueState
swapped_out_of queue batch numbers = record queue {
  files = files_staying numbers queue.files;
  spare = queue.spare + length numbers;
  batches = with_batch (batch_of_files batch numbers queue.files) queue.batches;
  batch_room = false;
}

-- ---- what comes in

abbrev pub rested : FlowFile → Held
rested file = record { file = file; in_flight = false }

-- the batch is there, with as many files and as many bytes
abbrev pub IsBatchOf : QueueState → ℕ → List FlowFile → Type 0
IsBatchOf queue batch files = batch_in queue batch
    ≡ Some (record { number = batch; files = length files; bytes = sum_by (λ file. file.content.size) files })

-- neither has the number or the arrival of the other
abbrev pub AreTwo : FlowFile → FlowFile → Type 0
AreTwo one other = (one.number ≢ other.number) × (one.arrival ≢ other.arrival)

-- no two of them have one number or one arrival, nor has one that of a file of the queue
pub record MayComeIn (queue : QueueState) (files : List FlowFile) : Type 0 where
  pub apart : All (λ file. IsApart file queue.files) files
  pub distinct : AllPairs AreTwo files

abbrev pub swapped_into : QueueState → ℕ → List FlowFile → QueueState
swapped_into queue batch files = record queue {
  files = with_items held_number (map rested files) queue.files;
  spare = queue.spare - length files;
  batches = without_batch batch queue.batches;
  batch_room = true;
}

-- ---- numbers, and the files that they stand for

-- a file of this number is there, and no session works on it
abbrev pub is_resting : List Held → ℕ → Bool
is_resting files number = option_map_or (λ held. not held.in_flight) (item_of held_number number files) false

-- the last of some numbers, where they are enough for a batch to go
abbrev pub last_of : QueueLimits → List ℕ → Option (List ℕ)
last_of limits numbers =
    if nat_le (limits.swap + batch_size limits) (length numbers)
    then Some (drop (length numbers - batch_size limits) numbers) else None

-- the numbers of files that no session works on
abbrev pub resting_among : List Held → List ℕ → List ℕ
resting_among files numbers = filter (is_resting files) numbers
