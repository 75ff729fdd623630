-- That batches of swapped files stay within 1 and the next batch.
use Rattle.std.proofs.Common.{◌≡◌, ℕ, ◌+◌, ◌<◌, ◌≤◌, Bool, true, false, cond, List, [], ◌∷◌, map, refl, ap, arith}
use Rattle.std.specs.Prelude.{◌==◌, ◌&&◌, not, nat_le, nat_lt, All, Option, Some, None, IfSome, find, unwrap_or, slice_get, slice_set}
use Rattle.std.specs.List.{flat_map}
use Rattle.std.proofs.lemmas.Bool.{le-leb, lt-ltb, leb-true, ltb-true, and_parts, and_from}
use Rattle.std.proofs.lemmas.List.Elements.{All-nil, All-cons, All-head, All-tail}
use Rattle.machine_model.specs.State.{QueuedFile}
use Rattle.machine_model.specs.Valid.{HasBatchBelow}
use Rattle.machine_model.specs.Placing.{SettledFile, Destination, Queues, Returns, Drops, Leaves}
use Rattle.machine_model.specs.Settling.{Newcomer, staying_as}
use Rattle.machine_model.proofs.Settled.{placed, stayed, queues_after, after-le, IsSteady}
use Rattle.machine_model.proofs.Tally.{tally, bit, tally-flat_map, tally-map, tally-le, tally-set, Each}

-- 1 where a batch is none of those that there can be
abbrev pub astray_batch : (next : ℕ) → Option ℕ → ℕ
astray_batch next None = 0
astray_batch next (Some batch) = bit (not (nat_le 1 batch && nat_lt batch next))

abbrev pub astray : (next : ℕ) → QueuedFile → ℕ
astray next file = astray_batch next file.batch

within-batch : (next : ℕ) (batch : Option ℕ) → IfSome batch (λ batch. (1 ≤ batch) × (batch < next)) → astray_batch next batch ≡ 0
within-batch next None h = refl
within-batch next (Some batch) h = let yes : (nat_le 1 batch && nat_lt batch next) ≡ true = and_from _ _ (le-leb 1 batch h.0) (lt-ltb batch next h.1) in rw yes

batch-within : (next : ℕ) (batch : Option ℕ) → astray_batch next batch ≡ 0 → IfSome batch (λ batch. (1 ≤ batch) × (batch < next))
batch-within next None h = tt
batch-within next (Some batch) h = passed (nat_le 1 batch && nat_lt batch next) refl h
  where
    passed : (b : Bool) → (nat_le 1 batch && nat_lt batch next) ≡ b → bit (not b) ≡ 0 → (1 ≤ batch) × (batch < next)
    passed true is h = let parts = and_parts (nat_le 1 batch) (nat_lt batch next) is in (leb-true 1 batch parts.0, ltb-true batch next parts.1)
    passed false is h = absurd (omega arith)

pub none-astray : (next : ℕ) (files : List QueuedFile) → All (HasBatchBelow next) files → tally (astray next) files ≡ 0
none-astray next [] h = refl
none-astray next (file ∷ files) h =
    omega (arith, within-batch next file.batch (All-head (HasBatchBelow next) file files h), none-astray next files (All-tail (HasBatchBelow next) file files h))

pub all-within : (next : ℕ) (files : List QueuedFile) → tally (astray next) files ≡ 0 → All (HasBatchBelow next) files
all-within next [] h = All-nil (HasBatchBelow next)
all-within next (file ∷ files) h = All-cons (HasBatchBelow next) file files (batch-within next file.batch (omega arith)) (all-within next files (omega arith))

-- ---- a session

astray-stays : (next : ℕ) (queued : QueuedFile) (found : Option SettledFile) → tally (astray next) (staying_as queued found) ≤ astray next queued
astray-stays next queued None = omega arith
astray-stays next queued (Some file) = by_goal file.goes refl
  where
    by_goal : (goes : Destination) → file.goes ≡ goes → tally (astray next) (staying_as queued (Some file)) ≤ astray next queued
    by_goal (Queues first others) is = rw is (omega arith)
    by_goal Returns is = rw is (omega arith)
    by_goal (Drops relationship) is = rw is (omega arith)
    by_goal Leaves is = rw is (omega arith)

none-arrive-astray : (next arrival : ℕ) (coming : List Newcomer) → Each IsSteady coming → tally (astray next) (placed arrival coming) ≡ 0
none-arrive-astray next arrival [] steady = refl
none-arrive-astray next arrival (newcomer ∷ rest) steady = omega (arith, ap (astray_batch next) (steady.0.active arrival), none-arrive-astray next (arrival + 1) rest steady.1)

pub batches-after : (files : List SettledFile) (coming : List Newcomer) (arrival next : ℕ) (queues : List (List QueuedFile)) → Each IsSteady coming
    → All (HasBatchBelow next) (flat_map (λ queue. queue) queues) → All (HasBatchBelow next) (flat_map (λ queue. queue) (queues_after files coming arrival queues))
batches-after files coming arrival next queues steady before =
    let old = flat_map (λ queue. queue) queues in
    all-within next (flat_map (λ queue. queue) (queues_after files coming arrival queues))
    (omega (
      arith,
      after-le (astray next) files coming arrival queues,
      none-arrive-astray next arrival coming steady,
      none-astray next old before,
      tally-le (λ queued. tally (astray next) (stayed files queued)) (astray next) (λ queued. astray-stays next queued (find (λ file. file.number == queued.number) files)) old,
    ))

-- ---- the queues' own steps

-- a higher batch comes next, and a queue has no batch astray that it didn't have
pub rebatched : (next next' : ℕ) (queues : List (List QueuedFile)) (place : ℕ) (queue : List QueuedFile) → next ≤ next'
    → tally (astray next') queue ≤ tally (astray next') (unwrap_or (slice_get queues place) [])
    → All (HasBatchBelow next) (flat_map (λ queue. queue) queues) → All (HasBatchBelow next') (flat_map (λ queue. queue) (slice_set queues place queue))
rebatched next next' queues place queue le lighter before =
    let old = flat_map (λ queue. queue) queues in
    all-within next' (flat_map (λ queue. queue) (slice_set queues place queue))
    (omega (
      arith,
      tally-flat_map (astray next') (λ queue. queue) (slice_set queues place queue),
      tally-flat_map (astray next') (λ queue. queue) queues,
      tally-set (tally (astray next')) queues place queue (λ other is. rw is at lighter),
      none-astray next old before,
      tally-le (astray next') (astray next) (λ file. higher file.batch) old,
    ))
  where
    higher : (batch : Option ℕ) → astray_batch next' batch ≤ astray_batch next batch
    higher None = omega arith
    higher (Some batch) = passes (nat_le 1 batch && nat_lt batch next) refl
      where
        passes : (b : Bool) → (nat_le 1 batch && nat_lt batch next) ≡ b → astray_batch next' (Some batch) ≤ bit (not b)
        passes true is =
            let parts = and_parts (nat_le 1 batch) (nat_lt batch next) is in
            let below = ltb-true batch next parts.1 in
            omega (arith, within-batch next' (Some batch) (leb-true 1 batch parts.0, omega arith))
        passes false is = elim (nat_le 1 batch && nat_lt batch next') as (λ b. bit (not b) ≤ 1) [ true ↦ omega arith | false ↦ omega arith ]

-- changed files have no batch astray that they didn't have
pub changed-le : (next : ℕ) (g : QueuedFile → QueuedFile) → ((file : QueuedFile) → astray next (g file) ≤ astray next file) → (files : List QueuedFile)
    → tally (astray next) (map g files) ≤ tally (astray next) files
changed-le next g lighter files = omega (arith, tally-map (astray next) g files, tally-le (λ file. astray next (g file)) (astray next) lighter files)

pub either-le : (next : ℕ) (b : Bool) (one other : QueuedFile) → astray next one ≡ 0 → astray next (cond b one other) ≤ astray next other
either-le next true one other none = omega arith
either-le next false one other none = omega arith

pub next-within : (batch : ℕ) → 1 ≤ batch → astray_batch (batch + 1) (Some batch) ≡ 0
next-within batch h = within-batch (batch + 1) (Some batch) (h, omega arith)
