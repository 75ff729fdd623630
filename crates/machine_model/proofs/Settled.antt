-- That a session leaves the queues well numbered.
use Rattle.std.proofs.Common.{◌≡◌, inl, inr, ℕ, ◌+◌, ◌≤◌, true, false, cond, List, [], ◌∷◌, ◌++◌, map, length, refl, sym, ap, ◌∙◌, arith}
use Rattle.std.specs.Prelude.{◌==◌, Option, Some, None, find}
use Rattle.std.specs.List.{flat_map, enumerate_from, range_with_len}
use Rattle.std.proofs.lemmas.Bool.{cases_lt}
use Rattle.machine_model.specs.State.{QueuedFile}
use Rattle.machine_model.specs.Placing.{SettledFile, SettlementClone, Destination, Queues, Returns, Drops, Leaves}
use Rattle.machine_model.specs.Settling.{Newcomer, newcomer, newcomers, in_queue, arriving, staying, staying_as}
use Rattle.machine_model.proofs.Tally.{tally, bit, many, tally-append, tally-map, tally-flat_map, tally-plus, tally-le, tally-same, tally-none, tally-enumerate, at_place, run_below, run_past, run_once, Each, each-append, each-flat_map, each-map}
use Rattle.machine_model.proofs.Keyed.{Counted}

-- ---- what the queues hold afterwards weighs what stays and what arrives

-- the newcomers with their arrivals
abbrev pub placed : ℕ → List Newcomer → List QueuedFile
placed arrival [] = []
placed arrival (newcomer ∷ rest) = newcomer.1 arrival ∷ placed (arrival + 1) rest

arriving_first : (w : QueuedFile → ℕ) (arrival place : ℕ) (newcomer : Newcomer) (rest : List Newcomer)
    → tally w (arriving arrival place (newcomer ∷ rest)) ≡ cond (newcomer.0 == place) (w (newcomer.1 arrival)) 0 + tally w (arriving (arrival + 1) place rest)
arriving_first w arrival place newcomer rest =
    let later = arriving (arrival + 1) place rest in
    elim (newcomer.0 == place) as (λ b. tally w (cond b (newcomer.1 arrival ∷ later) later) ≡ cond b (w (newcomer.1 arrival)) 0 + tally w later) [ true ↦ refl | false ↦ omega arith ]

arriving-le : (w : QueuedFile → ℕ) (arrival : ℕ) (coming : List Newcomer) (queues : List (List QueuedFile))
    → tally (λ (queue : ℕ × List QueuedFile). tally w (arriving arrival queue.0 coming)) (enumerate_from 0 queues) ≤ tally w (placed arrival coming)
arriving-le w arrival [] queues = omega (arith, tally-none (enumerate_from 0 queues))
arriving-le w arrival (newcomer ∷ rest) queues =
    let here = λ (queue : ℕ × List QueuedFile). cond (newcomer.0 == queue.0) (w (newcomer.1 arrival)) 0 in
    let later = λ (queue : ℕ × List QueuedFile). tally w (arriving (arrival + 1) queue.0 rest) in
    omega (
      arith,
      tally-same _ (λ queue. here queue + later queue) (λ queue. arriving_first w arrival queue.0 newcomer rest) (enumerate_from 0 queues),
      tally-plus here later (enumerate_from 0 queues),
      at_place newcomer.0 (w (newcomer.1 arrival)) 0 queues,
      arriving-le w (arrival + 1) rest queues,
    )

-- what a queued file leaves in its queue
abbrev pub stayed : List SettledFile → QueuedFile → List QueuedFile
stayed files queued = staying_as queued (find (λ file. file.number == queued.number) files)

abbrev pub queues_after : List SettledFile → List Newcomer → ℕ → List (List QueuedFile) → List (List QueuedFile)
queues_after files coming arrival queues = map (λ queue. staying files queue.1 ++ arriving arrival queue.0 coming) (enumerate_from 0 queues)

staying-all : (w : QueuedFile → ℕ) (files : List SettledFile) (queues : List (List QueuedFile))
    → tally (λ (queue : ℕ × List QueuedFile). tally w (staying files queue.1)) (enumerate_from 0 queues) ≡ tally (λ queued. tally w (stayed files queued)) (flat_map (λ queue. queue) queues)
staying-all w files queues =
    tally-enumerate (λ queue. tally w (staying files queue)) 0 queues
    ∙ tally-same (λ queue. tally w (staying files queue)) (tally (λ queued. tally w (stayed files queued))) (λ queue. tally-flat_map w (stayed files) queue) queues
    ∙ sym (tally-flat_map (λ queued. tally w (stayed files queued)) (λ queue. queue) queues)

pub after-le : (w : QueuedFile → ℕ) (files : List SettledFile) (coming : List Newcomer) (arrival : ℕ) (queues : List (List QueuedFile))
    → tally w (flat_map (λ queue. queue) (queues_after files coming arrival queues))
    ≤ tally (λ queued. tally w (stayed files queued)) (flat_map (λ queue. queue) queues) + tally w (placed arrival coming)
after-le w files coming arrival queues =
    let each = enumerate_from 0 queues in
    let stays = λ (queue : ℕ × List QueuedFile). tally w (staying files queue.1) in
    let comes = λ (queue : ℕ × List QueuedFile). tally w (arriving arrival queue.0 coming) in
    omega (
      arith,
      tally-flat_map w (λ queue. queue) (queues_after files coming arrival queues),
      tally-map (tally w) (λ (queue : ℕ × List QueuedFile). staying files queue.1 ++ arriving arrival queue.0 coming) each,
      tally-same _ (λ queue. stays queue + comes queue) (λ queue. tally-append w (staying files queue.1) (arriving arrival queue.0 coming)) each,
      tally-plus stays comes each,
      staying-all w files queues,
      arriving-le w arrival coming queues,
    )

-- ---- arrivals

arrival_stays : (n : ℕ) (queued : QueuedFile) (found : Option SettledFile) → many (λ (file : QueuedFile). file.arrival) n (staying_as queued found) ≤ bit (queued.arrival == n)
arrival_stays n queued None = omega arith
arrival_stays n queued (Some file) = by_goal file.goes refl
  where
    by_goal : (goes : Destination) → file.goes ≡ goes → many (λ (file : QueuedFile). file.arrival) n (staying_as queued (Some file)) ≤ bit (queued.arrival == n)
    by_goal (Queues first others) is = rw is (omega arith)
    by_goal Returns is = rw is (omega arith)
    by_goal (Drops relationship) is = rw is (omega arith)
    by_goal Leaves is = rw is (omega arith)

-- a newcomer has the arrival that it is given, a number that doesn't go by it, and no batch
pub record IsSteady (newcomer : Newcomer) : Type 0 where
  pub arrival : (n : ℕ) → (newcomer.1 n).arrival ≡ n
  pub number : (n : ℕ) → (newcomer.1 n).number ≡ (newcomer.1 0).number
  pub active : (n : ℕ) → (newcomer.1 n).batch ≡ None

steady_file : (file : SettledFile) (goes : Destination) → Each IsSteady (newcomer file goes)
steady_file file (Queues first others) = (record { arrival = λ n. refl; number = λ n. refl; active = λ n. refl }, tt)
steady_file file Returns = tt
steady_file file (Drops relationship) = tt
steady_file file Leaves = tt

pub newcomers-steady : (files : List SettledFile) (clones : List SettlementClone) → Each IsSteady (newcomers files clones)
newcomers-steady files clones =
    each-append IsSteady (flat_map (λ file. newcomer file file.goes) files) _ (each-flat_map IsSteady (λ file. newcomer file file.goes) files (λ file. steady_file file file.goes))
    (each-map IsSteady (λ clone. (clone.connection, in_queue clone.original clone.number)) clones (λ clone. record { arrival = λ n. refl; number = λ n. refl; active = λ n. refl }))

arrivals_are : (arrival : ℕ) (coming : List Newcomer) → Each IsSteady coming → map (λ (file : QueuedFile). file.arrival) (placed arrival coming) ≡ range_with_len arrival (length coming)
arrivals_are arrival [] steady = refl
arrivals_are arrival (newcomer ∷ rest) steady = rw (steady.0.arrival arrival) (ap (λ xs. arrival ∷ xs) (arrivals_are (arrival + 1) rest steady.1))

pub arrivals-after : (files : List SettledFile) (coming : List Newcomer) (arrival : ℕ) (queues : List (List QueuedFile)) → Each IsSteady coming
    → Counted (λ (file : QueuedFile). file.arrival) arrival (flat_map (λ queue. queue) queues)
    → Counted (λ (file : QueuedFile). file.arrival) (arrival + length coming) (flat_map (λ queue. queue) (queues_after files coming arrival queues))
arrivals-after files coming arrival queues steady before = record {
  once = λ n. elim (cases_lt n arrival) [
    | inl lt ↦ omega (arith, sum n, before.once n, run_below arrival (length coming) n lt)
    | inr ge ↦ omega (arith, sum n, before.none n ge, run_once arrival (length coming) n)
  ];
  none = λ n le. omega (arith, sum n, before.none n (omega arith), run_past arrival (length coming) n le);
  first = omega (arith, before.first);
  some = omega (arith, sum 0, before.some, run_below arrival (length coming) 0 before.first);
}
  where
    sum : (n : ℕ) → many (λ (file : QueuedFile). file.arrival) n (flat_map (λ queue. queue) (queues_after files coming arrival queues))
        ≤ many (λ (file : QueuedFile). file.arrival) n (flat_map (λ queue. queue) queues) + many (λ (m : ℕ). m) n (range_with_len arrival (length coming))
    sum n =
        let w = λ (file : QueuedFile). bit (file.arrival == n) in
        omega (
          arith,
          after-le w files coming arrival queues,
          tally-le (λ queued. tally w (stayed files queued)) w (λ queued. arrival_stays n queued (find (λ file. file.number == queued.number) files)) (flat_map (λ queue. queue) queues),
          tally-map (λ (m : ℕ). bit (m == n)) (λ (file : QueuedFile). file.arrival) (placed arrival coming),
          ap (many (λ (m : ℕ). m) n) (arrivals_are arrival coming steady),
        )
