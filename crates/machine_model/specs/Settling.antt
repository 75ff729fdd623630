-- The state that a session leaves.
use Rattle.std.specs.Prelude.{ℕ, ◌+◌, ◌==◌, List, [], ◌∷◌, ◌++◌, length, map, find, Option, Some, None, slice_set, if◌then◌else◌}
use Rattle.std.specs.FinSet.{union, from_list}
use Rattle.std.specs.List.{flat_map, enumerate_from}
use Rattle.machine_model.specs.declared.kind.Kind.{Kind}
use Rattle.machine_model.specs.declared.kind.Kind.TheVariants.{GenerateFlowFile}
use Rattle.flowfile_record.specs.Outcome.{parents_of}
use Rattle.flowfile_record.specs.declared.worked.Outcome.{Outcome}
use Rattle.machine_model.specs.State.{QueuedFile, State}
use Rattle.machine_model.specs.Events.{drafts, numbered_from, kin_from, number_at}
use Rattle.machine_model.specs.Placing.{EndedSession, SettledFile, SettlementClone, settled_files, settlement_clones, Destination, Queues, Returns, count_made}

-- a file in a queue, with this arrival
abbrev pub in_queue : SettledFile → (number arrival : ℕ) → QueuedFile
in_queue file number arrival = record {
  number = number;
  attributes = file.attributes;
  bytes = file.bytes;
  entered = file.entered;
  penalty_end = file.penalty_end;
  arrival = arrival;
  batch = None;
}

-- what joins the queues, each with its connection and as the file of an arrival: the files by place, then the clones
abbrev pub Newcomer : Type 0
Newcomer = ℕ × (ℕ → QueuedFile)

abbrev pub newcomer : SettledFile → Destination → List Newcomer
newcomer file (Queues first others) = (first, in_queue file file.number) ∷ []
newcomer file _ = []

abbrev pub newcomers : List SettledFile → List SettlementClone → List Newcomer
newcomers files clones =
    flat_map (λ file. newcomer file file.goes) files
    ++ map (λ clone. (clone.connection, in_queue clone.original clone.number)) clones

-- the newcomers of one connection; arrivals are given to all in turn
abbrev pub arriving : (arrival connection : ℕ) → List Newcomer → List QueuedFile
arriving arrival connection [] = []
arriving arrival connection (newcomer ∷ rest) =
    if newcomer.0 == connection then newcomer.1 arrival ∷ arriving (arrival + 1) connection rest
    else arriving (arrival + 1) connection rest

-- what stays of a file in its queue: one that wasn't taken, as it is, and one that returns, as it is now
abbrev pub staying_as : QueuedFile → Option SettledFile → List QueuedFile
staying_as queued None = queued ∷ []
staying_as queued (Some file) = returned file.goes
  where
    returned : Destination → List QueuedFile
    returned Returns = in_queue file file.number queued.arrival ∷ []
    returned _ = []

abbrev pub staying : List SettledFile → List QueuedFile → List QueuedFile
staying files queue = flat_map (λ queued. staying_as queued (find (λ file. file.number == queued.number) files)) queue

-- which file of a session came from which, as pairs (child, parent): each made file with each parent that its origin
-- names, and each clone with its original
abbrev pub kin_of_files : List SettledFile → List SettlementClone → List (ℕ × ℕ)
kin_of_files files clones =
    flat_map (λ file. map (λ place. (file.number, number_at files place)) (parents_of file.worked.origin)) files
    ++ map (λ clone. (clone.number, clone.original.number)) clones

-- a generator has made as many files as the index says that it was given
abbrev pub counts_after : Kind → (place index : ℕ) → List ℕ → List ℕ
counts_after (GenerateFlowFile count text) place index counts = slice_set counts place index
counts_after _ place index counts = counts

abbrev pub settle : EndedSession → Outcome → State
settle session outcome =
    let files = settled_files session outcome.files in
    let clones = settlement_clones session outcome.files in
    let arriving_files = newcomers files clones in
    let state = session.state in
    let told = drafts session outcome in
    record state {
      queues =
          map (λ queue. staying files queue.1 ++ arriving state.next_arrival queue.0 arriving_files)
          (enumerate_from 0 state.queues);
      events = state.events ++ numbered_from (state.last_event + 1) told;
      kin = union state.kin (from_list (kin_from (state.last_event + 1) told));
      next_number = state.next_number + count_made outcome.files + length clones;
      next_arrival = state.next_arrival + length arriving_files;
      last_event = state.last_event + length told;
      counts = counts_after session.processor.kind session.place session.given.index state.counts;
    }
