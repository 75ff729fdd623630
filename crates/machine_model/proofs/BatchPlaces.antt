-- That the files of a batch stand in one queue.
use Rattle.std.proofs.Common.{◌≡◌, ◌⊎◌, inl, inr, ℕ, zero, suc, ◌+◌, ◌<◌, ◌≤◌, Bool, true, false, cond, List, [], ◌∷◌, ◌++◌, map, refl, sym, ap, subst, ◌∙◌, arith}
use Rattle.std.specs.Prelude.{◌==◌, All, IfSome, Option, Some, None, find, filter, unwrap_or, slice_get, slice_set}
use Rattle.std.specs.List.{flat_map, enumerate_from}
use Rattle.std.proofs.lemmas.List.Elements.{All-contains}
use Rattle.machine_model.specs.Placing.{SettledFile, Destination, Queues, Returns, Drops, Leaves}
use Rattle.machine_model.specs.Settling.{Newcomer, arriving, staying, staying_as}
use Rattle.machine_model.specs.State.{QueuedFile}
use Rattle.machine_model.specs.Valid.{HasBatch, HasBatchBelow}
use Rattle.machine_model.proofs.Among.{Among, contains_among, among_contained, is_made, makes, kept_by}
use Rattle.machine_model.proofs.Settled.{queues_after, IsSteady}
use Rattle.machine_model.proofs.Tally.{Each}

-- a file of the queue is swapped out in the batch
abbrev pub Has : List QueuedFile → ℕ → Type 0
Has queue batch = Among (Some batch) (map (λ file. file.batch) queue)

pub has-among : (queue : List QueuedFile) (batch : ℕ) → HasBatch queue batch → Has queue batch
has-among queue batch h = among_contained (Some batch) (map (λ file. file.batch) queue) h

pub among-has : (queue : List QueuedFile) (batch : ℕ) → Has queue batch → HasBatch queue batch
among-has queue batch h = contains_among (Some batch) (map (λ file. file.batch) queue) h

abbrev pub at : List (List QueuedFile) → ℕ → List QueuedFile
at queues place = unwrap_or (slice_get queues place) []

-- ---- a session brings no batch

none_some : (batch : ℕ) → ◌≡◌ {A = Option ℕ} None (Some batch) → ⊥
none_some batch h = cc

stay-has : (batch : ℕ) (queued : QueuedFile) (found : Option SettledFile) (rest : List QueuedFile) → Has (staying_as queued found ++ rest) batch → (queued.batch ≡ Some batch) ⊎ Has rest batch
stay-has batch queued None rest h = h
stay-has batch queued (Some file) rest h = by_goal file.goes refl h
  where
    by_goal : (goes : Destination) → file.goes ≡ goes → Has (staying_as queued (Some file) ++ rest) batch → (queued.batch ≡ Some batch) ⊎ Has rest batch
    by_goal (Queues first others) is h = inr (rw is at h)
    by_goal Returns is h = elim (rw is at h) [ inl e ↦ absurd (none_some batch e) | inr later ↦ inr later ]
    by_goal (Drops relationship) is h = inr (rw is at h)
    by_goal Leaves is h = inr (rw is at h)

staying-has : (batch : ℕ) (files : List SettledFile) (queue : List QueuedFile) → Has (staying files queue) batch → Has queue batch
staying-has batch files [] h = h
staying-has batch files (queued ∷ queue) h =
    elim (stay-has batch queued (find (λ file. file.number == queued.number) files) (staying files queue) h) [
      | inl is ↦ inl is
      | inr later ↦ inr (staying-has batch files queue later)
    ]

active_first : (batch : ℕ) (file : QueuedFile) (files : List QueuedFile) → file.batch ≡ None → (Has files batch → ⊥) → Has (file ∷ files) batch → ⊥
active_first batch file files active none (inl is) = none_some batch (sym active ∙ is)
active_first batch file files active none (inr h) = none h

arriving-has : (batch arrival place : ℕ) (coming : List Newcomer) → Each IsSteady coming → Has (arriving arrival place coming) batch → ⊥
arriving-has batch arrival place [] steady h = h
arriving-has batch arrival place (newcomer ∷ rest) steady h =
    let later = arriving (arrival + 1) place rest in
    elim (newcomer.0 == place) as (λ b. Has (cond b (newcomer.1 arrival ∷ later) later) batch → ⊥) [
      | true ↦ λ h. active_first batch (newcomer.1 arrival) later (steady.0.active arrival) (λ h. arriving-has batch (arrival + 1) place rest steady.1 h) h
      | false ↦ λ h. arriving-has batch (arrival + 1) place rest steady.1 h
    ] h

map_either : (batch : ℕ) (files others : List QueuedFile) → Has (files ++ others) batch → Has files batch ⊎ Has others batch
map_either batch [] others h = inr h
map_either batch (file ∷ files) others (inl is) = inl (inl is)
map_either batch (file ∷ files) others (inr h) = elim (map_either batch files others h) [ inl here ↦ inl (inr here) | inr later ↦ inr later ]

after_at : (batch : ℕ) (files : List SettledFile) (coming : List Newcomer) (arrival k : ℕ) (queues : List (List QueuedFile)) (place : ℕ) → Each IsSteady coming
    → Has (at (map (λ (queue : ℕ × List QueuedFile). staying files queue.1 ++ arriving arrival queue.0 coming) (enumerate_from k queues)) place) batch → Has (at queues place) batch
after_at batch files coming arrival k [] place steady h = h
after_at batch files coming arrival k (queue ∷ queues) zero steady h =
    elim (map_either batch (staying files queue) (arriving arrival k coming) h) [
      | inl stays ↦ staying-has batch files queue stays
      | inr comes ↦ absurd (arriving-has batch arrival k coming steady comes)
    ]
after_at batch files coming arrival k (queue ∷ queues) (suc place) steady h = after_at batch files coming arrival (k + 1) queues place steady h

pub after-has : (batch : ℕ) (files : List SettledFile) (coming : List Newcomer) (arrival : ℕ) (queues : List (List QueuedFile)) (place : ℕ) → Each IsSteady coming
    → Has (at (queues_after files coming arrival queues) place) batch → Has (at queues place) batch
after-has batch files coming arrival queues place steady h = after_at batch files coming arrival 0 queues place steady h

-- ---- a queue in another's place

pub set-has : (batch : ℕ) (queues : List (List QueuedFile)) (place : ℕ) (queue : List QueuedFile) (other : ℕ)
    → Has (at (slice_set queues place queue) other) batch → Has (at queues other) batch ⊎ ((other ≡ place) × Has queue batch)
set-has batch [] place queue other h = inl h
set-has batch (first ∷ queues) zero queue zero h = inr (refl, h)
set-has batch (first ∷ queues) zero queue (suc other) h = inl h
set-has batch (first ∷ queues) (suc place) queue zero h = inl h
set-has batch (first ∷ queues) (suc place) queue (suc other) h =
    elim (set-has batch queues place queue other h) [ inl old ↦ inl old | inr new ↦ inr (ap suc new.0, new.1) ]

pub filter-has : (batch : ℕ) (p : QueuedFile → Bool) (queue : List QueuedFile) → Has (filter p queue) batch → Has queue batch
filter-has batch p queue h =
    let made = is_made (λ (file : QueuedFile). file.batch) (filter p queue) (Some batch) h in
    subst (λ b. Among b (map (λ (file : QueuedFile). file.batch) queue)) made.is (makes (λ (file : QueuedFile). file.batch) queue made.source (kept_by p queue made.source made.there).0)

-- changed files have batches that they had, or one
pub change-has : (batch new : ℕ) (g : QueuedFile → QueuedFile) → ((file : QueuedFile) → (g file).batch ≡ Some batch → (file.batch ≡ Some batch) ⊎ (batch ≡ new)) → (queue : List QueuedFile)
    → Has (map g queue) batch → Has queue batch ⊎ (batch ≡ new)
change-has batch new g each [] h = absurd h
change-has batch new g each (file ∷ queue) (inl is) = elim (each file is) [ inl old ↦ inl (inl old) | inr e ↦ inr e ]
change-has batch new g each (file ∷ queue) (inr h) = elim (change-has batch new g each queue h) [ inl old ↦ inl (inr old) | inr e ↦ inr e ]

-- ---- batches of queues are lower than the next

in_all : (queues : List (List QueuedFile)) (place batch : ℕ) → Has (at queues place) batch → Has (flat_map (λ queue. queue) queues) batch
in_all [] place batch h = h
in_all (queue ∷ queues) zero batch h = left queue (flat_map (λ queue. queue) queues) h
  where
    left : (files others : List QueuedFile) → Has files batch → Has (files ++ others) batch
    left [] others h = absurd h
    left (file ∷ files) others (inl is) = inl is
    left (file ∷ files) others (inr h) = inr (left files others h)
in_all (queue ∷ queues) (suc place) batch h = right queue (flat_map (λ queue. queue) queues) (in_all queues place batch h)
  where
    right : (files others : List QueuedFile) → Has others batch → Has (files ++ others) batch
    right [] others h = h
    right (file ∷ files) others h = inr (right files others h)

pub has-below : (queues : List (List QueuedFile)) (place batch next : ℕ) → All (HasBatchBelow next) (flat_map (λ queue. queue) queues) → Has (at queues place) batch → batch < next
has-below queues place batch next below h =
    let files = flat_map (λ queue. queue) queues in
    let made = is_made (λ (file : QueuedFile). file.batch) files (Some batch) (in_all queues place batch h) in
    some_below made.source.batch made.is (All-contains (HasBatchBelow next) files made.source below (contains_among made.source files made.there))
  where
    some_below : (found : Option ℕ) → found ≡ Some batch → IfSome found (λ batch. (1 ≤ batch) × (batch < next)) → batch < next
    some_below None is h = absurd (none_some batch is)
    some_below (Some other) is h = let same : other ≡ batch = cc in omega (arith, h.1)
