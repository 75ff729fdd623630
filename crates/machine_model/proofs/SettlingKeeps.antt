-- That a session leaves the queues well numbered.
use Rattle.std.proofs.Common.{ℕ, ◌+◌, ◌<◌, ◌≤◌, List, length, arith}
use Rattle.std.specs.Prelude.{All, Contains}
use Rattle.std.proofs.lemmas.List.Elements.{All-weaker, All-contains}
use Rattle.machine_model.specs.State.{QueuedFile}
use Rattle.machine_model.specs.Laws.{SettlingKeepsNumbers}
use Rattle.machine_model.specs.Valid.{AreNumbered, files_of_all}
use Rattle.machine_model.specs.Placing.{settled_files, settlement_clones, wanted_clones, count_made}
use Rattle.machine_model.specs.Settling.{settle, newcomers}
use Rattle.machine_model.proofs.Batches.{batches-after}
use Rattle.machine_model.proofs.Keyed.{counted, numbered}
use Rattle.machine_model.proofs.Numbers.{finished-below, clones-counted}
use Rattle.machine_model.proofs.Settled.{arrivals-after, newcomers-steady}
use Rattle.machine_model.proofs.SettledNumbers.{numbers-after}

-- files of the queues have numbers from 1 on, lower than the next
taken_within : (next : ℕ) (queued taken : List QueuedFile) → All (λ file. (1 ≤ file.number) × (file.number < next)) queued → All (Contains queued) taken
    → All (λ file. (1 ≤ file.number) × (file.number < next)) taken
taken_within next queued taken within there =
    All-weaker (Contains queued) (λ file. (1 ≤ file.number) × (file.number < next))
    (λ file in_queue. All-contains (λ file. (1 ≤ file.number) × (file.number < next)) queued file within in_queue) taken there

pub settle-keeps : SettlingKeepsNumbers
settle-keeps session outcome before taken is_outcome =
    let state = session.state in
    let files = settled_files session outcome.files in
    let clones = settlement_clones session outcome.files in
    let first = state.next_number + count_made outcome.files in
    let own : AreNumbered (λ (file : QueuedFile). file.number) state.next_number session.taken =
    record { first = before.numbers.first; differ = taken.differ; within = taken_within state.next_number (files_of_all state) session.taken before.numbers.within taken.there } in
    let worked = finished-below session outcome.files is_outcome (counted (λ (file : QueuedFile). file.number) state.next_number session.taken own) in
    record {
      numbers = numbered (λ (file : QueuedFile). file.number) (first + length clones) (files_of_all (settle session outcome))
          (numbers-after files clones state.next_arrival first state.next_number (first + length clones) state.queues (omega arith) worked
          (clones-counted first (wanted_clones files)) (counted (λ (file : QueuedFile). file.number) state.next_number (files_of_all state) before.numbers) (omega arith));
      arrivals = numbered (λ (file : QueuedFile). file.arrival) (state.next_arrival + length (newcomers files clones)) (files_of_all (settle session outcome))
          (arrivals-after files (newcomers files clones) state.next_arrival state.queues (newcomers-steady files clones)
          (counted (λ (file : QueuedFile). file.arrival) state.next_arrival (files_of_all state) before.arrivals));
      first_batch = before.first_batch;
      batches = batches-after files (newcomers files clones) state.next_arrival state.next_batch state.queues (newcomers-steady files clones) before.batches;
    }
