-- In which states a flow can be.
use Rattle.std.specs.Prelude.{◌≡◌, ◌≢◌, ℕ, ◌+◌, ◌%◌, ◌<◌, ◌≤◌, List, [], length, map, All, Contains, IfSome, Some}
use Rattle.std.specs.FinSet.{empty, from_list}
use Rattle.std.specs.List.{range_with_len, AllPairs, flat_map}
use Rattle.flowfile_record.specs.Kin.{kin_of_all}
use Rattle.flowfile_record.specs.declared.limits.TheConstants.{EVENTS_PER_FILE, STORE_LIMIT}
use Rattle.machine_model.specs.declared.flow.Flow.{Flow}
use Rattle.machine_model.specs.Files.{queue_at}
use Rattle.machine_model.specs.State.{QueuedFile, State}

-- ---- numbers, arrivals and batches

abbrev pub files_of_all : State → List QueuedFile
files_of_all state = flat_map (λ queue. queue) state.queues

-- no two files have one number; each is 1 or higher, and lower than the next one
pub record AreNumbered (number : QueuedFile → ℕ) (next : ℕ) (files : List QueuedFile) : Type 0 where
  pub first : 1 ≤ next
  pub differ : AllPairs (λ one other. number one ≢ number other) files
  pub within : All (λ file. (1 ≤ number file) × (number file < next)) files

-- a batch, if the file is swapped out, is 1 or higher, and lower than the next one
abbrev pub HasBatchBelow : (next : ℕ) → QueuedFile → Type 0
HasBatchBelow next file = IfSome file.batch (λ batch. (1 ≤ batch) × (batch < next))

-- what holds of the numbers, the arrivals and the batches of all files in the queues
pub record IsWellNumbered (state : State) : Type 0 where
  pub numbers : AreNumbered (λ file. file.number) state.next_number (files_of_all state)
  pub arrivals : AreNumbered (λ file. file.arrival) state.next_arrival (files_of_all state)
  pub first_batch : 1 ≤ state.next_batch
  pub batches : All (HasBatchBelow state.next_batch) (files_of_all state)

-- ---- queues

abbrev pub AreByArrival : List QueuedFile → Type 0
AreByArrival queue = AllPairs (λ earlier later. earlier.arrival < later.arrival) queue

abbrev pub HasBatch : List QueuedFile → ℕ → Type 0
HasBatch queue batch = Contains (map (λ file. file.batch) queue) (Some batch)

-- the files of a batch stand in one queue
abbrev pub StandBatchesInOne : State → Type 0
StandBatchesInOne state = (one other batch : ℕ) → HasBatch (queue_at state one) batch →
    HasBatch (queue_at state other) batch → one ≡ other

-- ---- events and kin

-- The line stands between two files of events. The events past it are numbered in a row from the next number on, up to
-- the last one.
pub record AreEventsInRow (state : State) : Type 0 where
  pub line : state.line % EVENTS_PER_FILE ≡ 0
  pub numbers : map (λ event. event.number) state.events ≡ range_with_len (state.line + 1) (length state.events)
  pub last_event : state.last_event ≡ state.line + length state.events

-- the kin is the set of what the events name, each with the number of its event
abbrev pub EventsTellKin : State → Type 0
EventsTellKin state = state.kin ≡ from_list (kin_of_all state.events)

-- ---- all of it

-- a state of a flow: a queue for each connection, a count for each processor
pub record IsValid (flow : Flow) (state : State) : Type 0 where
  pub queues : length state.queues ≡ length flow.connections
  pub counts : length state.counts ≡ length flow.processors
  pub numbered : IsWellNumbered state
  pub by_arrival : All AreByArrival state.queues
  pub batches : StandBatchesInOne state
  pub events : AreEventsInRow state
  pub kin : EventsTellKin state

-- that of a new store, whose id is the lower 60 bits of a lot
abbrev pub new_state : Flow → (lot : ℕ) → State
new_state flow lot = record {
  store = lot % STORE_LIMIT;
  line = 0;
  queues = map (λ connection. []) flow.connections;
  events = [];
  kin = empty;
  next_number = 1;
  next_arrival = 1;
  next_batch = 1;
  last_event = 0;
  counts = map (λ processor. 0) flow.processors;
}
