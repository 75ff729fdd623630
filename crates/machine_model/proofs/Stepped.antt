-- That steps and replays leave the queues well numbered.
use Rattle.std.proofs.Common.{◌≡◌, ◌+◌, ℕ, ◌≤◌, Bool, true, false, cond, List, [], map, refl, ap, ◌∙◌, arith}
use Rattle.std.specs.Prelude.{◌==◌, Some, None, IfSome, unwrap_or, slice_get, slice_set}
use Rattle.std.specs.List.{flat_map}
use Rattle.std.proofs.lemmas.Bool.{and_parts, eqb-true}
use Rattle.machine_model.specs.declared.flow.Connection.{Connection}
use Rattle.machine_model.specs.State.{QueuedFile, State}
use Rattle.machine_model.specs.Files.{queue_at, is_number_among, is_in_batch}
use Rattle.machine_model.specs.Laws.{StepsKeepNumbers, ReplaysKeepNumbers}
use Rattle.machine_model.specs.Valid.{AreNumbered, IsWellNumbered}
use Rattle.machine_model.specs.Stepping.{aged, expire_step, expired, without_files, swap_out_step, swapped_out, swap_in_step, swapped_in}
use Rattle.machine_model.proofs.Batches.{astray, astray_batch, rebatched, changed-le, either-le, next-within}
use Rattle.machine_model.proofs.Keyed.{Counted, counted, numbered}
use Rattle.machine_model.proofs.Options.{if_when}
use Rattle.machine_model.proofs.Preserved.{IsKept, step-kept, replay-kept}
use Rattle.machine_model.proofs.SettlingKeeps.{settle-keeps}
use Rattle.machine_model.proofs.Tally.{bit, many, tally-flat_map, tally-map, tally-same, tally-filter, tally-set}

-- ---- the queues' own steps

-- a queue has no key more often than the one in whose place it stands
requeued : (key : QueuedFile → ℕ) (next : ℕ) (queues : List (List QueuedFile)) (place : ℕ) (queue : List QueuedFile)
    → ((n : ℕ) → many key n queue ≤ many key n (unwrap_or (slice_get queues place) []))
    → AreNumbered key next (flat_map (λ queue. queue) queues) → AreNumbered key next (flat_map (λ queue. queue) (slice_set queues place queue))
requeued key next queues place queue lighter before =
    numbered key next (flat_map (λ queue. queue) (slice_set queues place queue)) (record {
      once = λ n. omega (arith, fewer n, counts.once n);
      none = λ n le. omega (arith, fewer n, counts.none n le);
      first = counts.first;
      some = omega (arith, fewer 0, counts.some);
    })
  where
    counts : Counted key next (flat_map (λ queue. queue) queues)
    counts = counted key next (flat_map (λ queue. queue) queues) before

    fewer : (n : ℕ) → many key n (flat_map (λ queue. queue) (slice_set queues place queue)) ≤ many key n (flat_map (λ queue. queue) queues)
    fewer n = omega (
      arith,
      tally-flat_map (λ file. bit (key file == n)) (λ queue. queue) (slice_set queues place queue),
      tally-flat_map (λ file. bit (key file == n)) (λ queue. queue) queues,
      tally-set (many key n) queues place queue (λ old is. rw is at (lighter n)),
    )

-- the files of a queue, some of them changed, but not their keys
changed : (key : QueuedFile → ℕ) (g : QueuedFile → QueuedFile) → ((file : QueuedFile) → key (g file) ≡ key file) → (files : List QueuedFile) (n : ℕ) → many key n (map g files) ≡ many key n files
changed key g same files n =
    tally-map (λ file. bit (key file == n)) g files ∙ tally-same (λ file. bit (key (g file) == n)) (λ file. bit (key file == n)) (λ file. ap (λ m. bit (m == n)) (same file)) files

either_key : (key : QueuedFile → ℕ) (b : Bool) (one other : QueuedFile) → key one ≡ key other → key (cond b one other) ≡ key other
either_key key true one other same = same
either_key key false one other same = refl

expire-keeps : (state : State) (place : ℕ) (numbers : List ℕ) (moment : ℕ) (connection : Connection) → IsWellNumbered state → IfSome (expire_step state place numbers moment connection) IsWellNumbered
expire-keeps state place numbers moment connection before =
    let queue = queue_at state place in
    if_when _ (expired state place connection numbers moment) IsWellNumbered (λ _. record {
      numbers = requeued (λ file. file.number) state.next_number state.queues place (without_files queue numbers) (λ n. tally-filter _ _ queue) before.numbers;
      arrivals = requeued (λ file. file.arrival) state.next_arrival state.queues place (without_files queue numbers) (λ n. tally-filter _ _ queue) before.arrivals;
      first_batch = before.first_batch;
      batches = rebatched state.next_batch state.next_batch state.queues place (without_files queue numbers) (omega arith) (tally-filter (astray state.next_batch) _ queue) before.batches;
    })

swap_out-keeps : (state : State) (place : ℕ) (numbers : List ℕ) (batch : ℕ) (connection : Connection) → IsWellNumbered state → IfSome (swap_out_step state place numbers batch connection) IsWellNumbered
swap_out-keeps state place numbers batch connection before =
    let queue = queue_at state place in
    let out = map (swapped_out numbers batch) queue in
    if_when _ _ IsWellNumbered (λ passes.
    let is_next : batch ≡ state.next_batch = eqb-true batch state.next_batch (and_parts _ (batch == state.next_batch) passes).1 in
    let none : astray_batch (batch + 1) (Some batch) ≡ 0 = next-within batch (omega (arith, before.first_batch)) in
    record {
      numbers = requeued (λ file. file.number) state.next_number state.queues place out
          (λ n. omega (arith, changed (λ file. file.number) (swapped_out numbers batch) (λ file. either_key (λ file. file.number) (is_number_among numbers file.number) _ file refl) queue n)) before.numbers;
      arrivals = requeued (λ file. file.arrival) state.next_arrival state.queues place out
          (λ n. omega (arith, changed (λ file. file.arrival) (swapped_out numbers batch) (λ file. either_key (λ file. file.arrival) (is_number_among numbers file.number) _ file refl) queue n)) before.arrivals;
      first_batch = omega arith;
      batches = rebatched state.next_batch (batch + 1) state.queues place out (omega arith)
          (changed-le (batch + 1) (swapped_out numbers batch) (λ file. either-le (batch + 1) (is_number_among numbers file.number) (record file { batch = Some batch }) file none) queue) before.batches;
    })

swap_in-keeps : (state : State) (place batch : ℕ) (connection : Connection) → IsWellNumbered state → IfSome (swap_in_step state place batch connection) IsWellNumbered
swap_in-keeps state place batch connection before =
    let queue = queue_at state place in
    let back = map (swapped_in batch) queue in
    if_when _ _ IsWellNumbered (λ _. record {
      numbers = requeued (λ file. file.number) state.next_number state.queues place back
          (λ n. omega (arith, changed (λ file. file.number) (swapped_in batch) (λ file. either_key (λ file. file.number) (is_in_batch batch file) _ file refl) queue n)) before.numbers;
      arrivals = requeued (λ file. file.arrival) state.next_arrival state.queues place back
          (λ n. omega (arith, changed (λ file. file.arrival) (swapped_in batch) (λ file. either_key (λ file. file.arrival) (is_in_batch batch file) _ file refl) queue n)) before.arrivals;
      first_batch = before.first_batch;
      batches = rebatched state.next_batch state.next_batch state.queues place back (omega arith)
          (changed-le state.next_batch (swapped_in batch) (λ file. either-le state.next_batch (is_in_batch batch file) (record file { batch = None }) file refl) queue) before.batches;
    })

-- ---- all steps

pub well-numbered-kept : IsKept IsWellNumbered
well-numbered-kept = record {
  others = record {
    settling = λ session outcome taken next ends before. settle-keeps session outcome before taken ends;
    expiry = expire-keeps;
    swap_out = swap_out-keeps;
    swap_in = swap_in-keeps;
  };
  aging = λ state line before. if_when _ (aged state line) IsWellNumbered (λ _. record { numbers = before.numbers; arrivals = before.arrivals; first_batch = before.first_batch; batches = before.batches });
}

pub step-keeps : StepsKeepNumbers
step-keeps = step-kept IsWellNumbered well-numbered-kept

pub replay-keeps : ReplaysKeepNumbers
replay-keeps = replay-kept IsWellNumbered well-numbered-kept
