-- What a settled session makes of a state, where references stand for these bytes.
use Rattle.std.specs.Prelude.{◌≡◌, ℕ, ◌+◌, ◌==◌, true, List, ◌++◌, length, map, filter, fold, unwrap_or, All, None}
use Rattle.std.specs.FinSet.{union, from_list}
use Rattle.std.specs.List.{enumerate_from}
use Rattle.sha2.specs.Sha256.{sha256}
use Rattle.flowfile_record.specs.Counts.{with_count}
use Rattle.flowfile_record.specs.Kin.{kin_of_all}
use Rattle.flowfile_record.specs.NumberedItems.{with_item}
use Rattle.flowfile_record.specs.Shared.{bytes_among, is_stored}
use Rattle.flowfile_record.specs.declared.change.Settled.{Settled}
use Rattle.flowfile_record.specs.declared.content.ContentRef.{ContentRef}
use Rattle.flowfile_record.specs.declared.flow_file.FlowFile.{FlowFile}
use Rattle.flowfile_record.specs.declared.stored.Placed.{Placed}
use Rattle.machine_model.specs.State.{QueuedFile, State}
use Rattle.machine_model.specs.Stepping.{without_files}

-- a flow file as one of a queue, with the bytes that its reference stands for
abbrev pub queued_file : (contents : ContentRef → List ℕ) → FlowFile → QueuedFile
queued_file contents file = record {
  number = file.number;
  attributes = file.attributes;
  bytes = contents file.content;
  entered = file.entered;
  penalty_end = file.penalty_end;
  arrival = file.arrival;
  batch = None;
}

-- one of all these placed files, with its bytes: those of a new content, or those that its reference stands for
abbrev pub placed_file : (contents : ContentRef → List ℕ) → (all : List Placed) → Placed → QueuedFile
placed_file contents all p =
    record (queued_file contents p.file) { bytes = unwrap_or (bytes_among all p.fresh) (contents p.file.content) }

-- a content that is in the store has the digest of the bytes that its reference stands for
abbrev pub HaveDigests : (contents : ContentRef → List ℕ) → List Placed → Type 0
HaveDigests contents placed =
    All (λ p. is_stored p.fresh ≡ true → sha256 (contents p.file.content) ≡ p.file.content.digest) placed

-- what of them is placed into the queue of a connection
abbrev pub placed_into : (contents : ContentRef → List ℕ) → (all : List Placed) → (connection : ℕ) → List Placed
    → List QueuedFile
placed_into contents all connection placed =
    map (placed_file contents all) (filter (λ p. p.connection == connection) placed)

-- one file more in a queue, by its arrival
abbrev pub with_arrival : List QueuedFile → QueuedFile → List QueuedFile
with_arrival queue file = with_item (λ f. f.arrival) file queue

-- a queue without what is gone, and with what is placed into it, by arrival
abbrev pub queue_after : (contents : ContentRef → List ℕ) → Settled → ℕ × List QueuedFile → List QueuedFile
queue_after contents s (connection, queue) =
    fold with_arrival (without_files queue s.gone) (placed_into contents s.placed connection s.placed)

-- The state behind a settled session. The kin is what the events tell of.
abbrev pub state_after : (contents : ContentRef → List ℕ) → State → Settled → State
state_after contents state s = record state {
  queues = map (queue_after contents s) (enumerate_from 0 state.queues);
  events = state.events ++ s.events;
  kin = union state.kin (from_list (kin_of_all s.events));
  next_number = s.next_number;
  next_arrival = s.next_arrival;
  last_event = state.last_event + length s.events;
  counts = with_count s.count state.counts;
}
