-- Flow files in the machine's queues, and how these are seen.
use Rattle.std.specs.Prelude.{ℕ, ◌==◌, ◌&&◌, not, Bool, true, false, List, [], ◌∷◌, length, map, filter, find, sum_by, is_none, is_some, Option, unwrap_or, slice_get, if◌then◌else◌}
use Rattle.std.specs.List.{list_all, filter_map}
use Rattle.std.specs.Option.{option_map_or}
use Rattle.machine_model.specs.State.{QueuedFile, State}
use Rattle.machine_model.specs.View.{FileView, BatchView, QueueView}

abbrev pub is_active : QueuedFile → Bool
is_active file = is_none file.batch

abbrev pub active_files : List QueuedFile → List QueuedFile
active_files files = filter is_active files

-- the file of this number
abbrev pub file_numbered : List QueuedFile → ℕ → Option QueuedFile
file_numbered files number = find (λ file. file.number == number) files

-- the queue of the connection at this place, which is empty where there is none
abbrev pub queue_at : State → ℕ → List QueuedFile
queue_at state connection = unwrap_or (slice_get state.queues connection) []

-- each of these numbers is that of an active file
abbrev pub are_active : List QueuedFile → List ℕ → Bool
are_active files numbers = list_all (λ number. is_some (file_numbered (active_files files) number)) numbers

abbrev pub is_number_among : List ℕ → ℕ → Bool
is_number_among numbers number = is_some (find (λ n. n == number) numbers)

-- each number stands once
abbrev pub are_distinct : List ℕ → Bool
are_distinct [] = true
are_distinct (number ∷ numbers) = not (is_number_among numbers number) && are_distinct numbers

-- these numbers, each once
abbrev pub each_once : List ℕ → List ℕ
each_once [] = []
each_once (number ∷ numbers) = if is_number_among numbers number then each_once numbers else number ∷ each_once numbers

-- how many bytes the contents of some files have together
abbrev pub content_bytes : List QueuedFile → ℕ
content_bytes files = sum_by (λ file. length file.bytes) files

-- ---- how a queue is seen; the machine's steps are whole sessions, so none of its files is in flight

abbrev pub view_of : QueuedFile → FileView
view_of file = record {
  number = file.number;
  attributes = file.attributes;
  size = length file.bytes;
  entered = file.entered;
  penalty_end = file.penalty_end;
  arrival = file.arrival;
  in_flight = false;
}

abbrev pub active_views : List QueuedFile → List FileView
active_views files = map view_of (active_files files)

abbrev pub is_in_batch : ℕ → QueuedFile → Bool
is_in_batch batch file = option_map_or (λ b. b == batch) file.batch false

-- the batches in which files of a queue are swapped out
abbrev pub batches : List QueuedFile → List ℕ
batches files = each_once (filter_map (λ file. file.batch) files)

abbrev pub batch_view : List QueuedFile → ℕ → BatchView
batch_view files batch =
    let swapped = filter (is_in_batch batch) files in
    record { number = batch; files = length swapped; size = content_bytes swapped }

abbrev pub queue_view : List QueuedFile → QueueView
queue_view files = record { active = active_views files; batches = map (batch_view files) (batches files) }

-- the queue of the connection at a place, as it is seen
abbrev pub queues_of : State → ℕ → QueueView
queues_of state connection = queue_view (queue_at state connection)
