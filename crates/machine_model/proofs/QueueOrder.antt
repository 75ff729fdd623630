-- That the files of a queue stand by arrival.
use Rattle.std.proofs.Common.{◌≡◌, ℕ, ◌+◌, ◌<◌, ◌≤◌, Bool, true, false, cond, List, [], ◌∷◌, ◌++◌, map, length, refl, sym, subst, arith}
use Rattle.std.specs.Prelude.{◌==◌, All, Option, Some, None, find, filter}
use Rattle.std.specs.List.{enumerate_from}
use Rattle.std.proofs.lemmas.List.Elements.{All-nil, All-cons, All-head, All-tail, All-map}
use Rattle.std.proofs.lemmas.List.Kept.{AllPairs-cons}
use Rattle.machine_model.specs.Placing.{SettledFile, Destination, Queues, Returns, Drops, Leaves}
use Rattle.machine_model.specs.Settling.{Newcomer, arriving, staying, staying_as}
use Rattle.machine_model.specs.State.{QueuedFile}
use Rattle.machine_model.specs.Valid.{AreByArrival}
use Rattle.machine_model.proofs.Ordered.{pairs_head, pairs_tail, pairs_nil}
use Rattle.machine_model.proofs.Settled.{queues_after, IsSteady}
use Rattle.machine_model.proofs.Tally.{Each}

-- arrivals rise from one number on, below another
abbrev pub Rise : (low high : ℕ) → List QueuedFile → Type 0
Rise low high [] = Unit {0}
Rise low high (file ∷ files) = (low ≤ file.arrival) × (file.arrival < high) × Rise (file.arrival + 1) high files

abbrev Before : QueuedFile → QueuedFile → Type 0
Before earlier later = earlier.arrival < later.arrival

rise-weaker : (low low' high : ℕ) (files : List QueuedFile) → low ≤ low' → Rise low' high files → Rise low high files
rise-weaker low low' high [] le h = tt
rise-weaker low low' high (file ∷ files) le h = (omega (arith, h.0), h.1, h.2)

pub rise-from : (low high : ℕ) (files : List QueuedFile) → All (λ file. low ≤ file.arrival) files → All (λ file. file.arrival < high) files → AreByArrival files → Rise low high files
rise-from low high [] above below pairs = tt
rise-from low high (file ∷ files) above below pairs = (
  All-head (λ file. low ≤ file.arrival) file files above,
  All-head (λ file. file.arrival < high) file files below,
  rise-from (file.arrival + 1) high files (later files (pairs_head Before file files pairs)) (All-tail (λ file. file.arrival < high) file files below) (pairs_tail Before file files pairs),
)
  where
    later : (others : List QueuedFile) → All (Before file) others → All (λ other. file.arrival + 1 ≤ other.arrival) others
    later [] h = All-nil (λ other. file.arrival + 1 ≤ other.arrival)
    later (other ∷ others) h =
        let here : file.arrival < other.arrival = All-head (Before file) other others h in
        All-cons (λ other. file.arrival + 1 ≤ other.arrival) other others (omega arith) (later others (All-tail (Before file) other others h))

rise-above : (low high : ℕ) (file : QueuedFile) (files : List QueuedFile) → file.arrival < low → Rise low high files → All (Before file) files
rise-above low high file [] lt h = All-nil (Before file)
rise-above low high file (other ∷ files) lt h = All-cons (Before file) other files (omega (arith, h.0)) (rise-above (other.arrival + 1) high file files (omega (arith, h.0)) h.2)

pub rise-pairs : (low high : ℕ) (files : List QueuedFile) → Rise low high files → AreByArrival files
rise-pairs low high [] h = pairs_nil Before
rise-pairs low high (file ∷ files) h =
    AllPairs-cons Before file files (rise-above (file.arrival + 1) high file files (omega arith) h.2) (rise-pairs (file.arrival + 1) high files h.2)

rise-append : (low middle high : ℕ) (files others : List QueuedFile) → low ≤ middle → middle ≤ high → Rise low middle files → Rise middle high others → Rise low high (files ++ others)
rise-append low middle high [] others le le' h k = rise-weaker low middle high others le k
rise-append low middle high (file ∷ files) others le le' h k =
    (h.0, omega (arith, h.1), rise-append (file.arrival + 1) middle high files others (omega (arith, h.1)) le' h.2 k)

-- ---- a session

stay-rises : (low high : ℕ) (queued : QueuedFile) (found : Option SettledFile) (rest : List QueuedFile) → low ≤ queued.arrival → queued.arrival < high → Rise (queued.arrival + 1) high rest
    → Rise low high (staying_as queued found ++ rest)
stay-rises low high queued None rest le lt h = (le, lt, h)
stay-rises low high queued (Some file) rest le lt h = by_goal file.goes refl
  where
    on : Rise low high rest
    on = rise-weaker low (queued.arrival + 1) high rest (omega arith) h

    by_goal : (goes : Destination) → file.goes ≡ goes → Rise low high (staying_as queued (Some file) ++ rest)
    by_goal (Queues first others) is = rw is on
    by_goal Returns is = rw is (le, lt, h)
    by_goal (Drops relationship) is = rw is on
    by_goal Leaves is = rw is on

staying-rises : (low high : ℕ) (files : List SettledFile) (queue : List QueuedFile) → Rise low high queue → Rise low high (staying files queue)
staying-rises low high files [] h = tt
staying-rises low high files (queued ∷ queue) h =
    stay-rises low high queued (find (λ file. file.number == queued.number) files) (staying files queue) h.0 h.1 (staying-rises (queued.arrival + 1) high files queue h.2)

arriving-rises : (arrival place : ℕ) (coming : List Newcomer) → Each IsSteady coming → Rise arrival (arrival + length coming) (arriving arrival place coming)
arriving-rises arrival place [] steady = tt
arriving-rises arrival place (newcomer ∷ rest) steady =
    let later = arriving (arrival + 1) place rest in
    let high = arrival + length (newcomer ∷ rest) in
    let same : arrival + 1 + length rest ≡ high = omega arith in
    let on : Rise (arrival + 1) high later = subst (λ n. Rise (arrival + 1) n later) same (arriving-rises (arrival + 1) place rest steady.1) in
    let is : (newcomer.1 arrival).arrival ≡ arrival = steady.0.arrival arrival in
    elim (newcomer.0 == place) as (λ b. Rise arrival high (cond b (newcomer.1 arrival ∷ later) later)) [
      | true ↦ (omega arith, omega arith, subst (λ n. Rise (n + 1) high later) (sym is) on)
      | false ↦ rise-weaker arrival (arrival + 1) high later (omega arith) on
    ]

-- a queue by arrival, below a number
abbrev pub IsBelow : ℕ → List QueuedFile → Type 0
IsBelow next queue = AreByArrival queue × All (λ file. file.arrival < next) queue

all_above : (files : List QueuedFile) → All (λ file. 0 ≤ file.arrival) files
all_above [] = All-nil (λ file. 0 ≤ file.arrival)
all_above (file ∷ files) = All-cons (λ file. 0 ≤ file.arrival) file files (omega arith) (all_above files)

settled-rises : (files : List SettledFile) (coming : List Newcomer) (arrival place : ℕ) (queue : List QueuedFile) → Each IsSteady coming → IsBelow arrival queue
    → AreByArrival (staying files queue ++ arriving arrival place coming)
settled-rises files coming arrival place queue steady before =
    rise-pairs 0 (arrival + length coming) _
    (rise-append 0 arrival (arrival + length coming) (staying files queue) (arriving arrival place coming) (omega arith) (omega arith)
    (staying-rises 0 arrival files queue (rise-from 0 arrival queue (all_above queue) before.1 before.0)) (arriving-rises arrival place coming steady))

each_enumerated : {X : Type 0} (P : X → Type 0) (Q : ℕ × X → Type 0) → ((k : ℕ) (x : X) → P x → Q (k, x)) → (k : ℕ) (xs : List X) → All P xs → All Q (enumerate_from k xs)
each_enumerated P Q each k [] all = All-nil Q
each_enumerated P Q each k (x ∷ xs) all = All-cons Q (k, x) (enumerate_from (k + 1) xs) (each k x (All-head P x xs all)) (each_enumerated P Q each (k + 1) xs (All-tail P x xs all))

pub queues-rise : (files : List SettledFile) (coming : List Newcomer) (arrival : ℕ) (queues : List (List QueuedFile)) → Each IsSteady coming → All (IsBelow arrival) queues
    → All AreByArrival (queues_after files coming arrival queues)
queues-rise files coming arrival queues steady before =
    All-map AreByArrival (λ (queue : ℕ × List QueuedFile). staying files queue.1 ++ arriving arrival queue.0 coming) (enumerate_from 0 queues)
    (each_enumerated (IsBelow arrival) (λ (queue : ℕ × List QueuedFile). AreByArrival (staying files queue.1 ++ arriving arrival queue.0 coming))
    (λ place queue is. settled-rises files coming arrival place queue steady is) 0 queues before)

-- ---- fewer files, and files that are changed

filter-rises : (low high : ℕ) (p : QueuedFile → Bool) (files : List QueuedFile) → Rise low high files → Rise low high (filter p files)
filter-rises low high p [] h = tt
filter-rises low high p (file ∷ files) h =
    let on = filter-rises (file.arrival + 1) high p files h.2 in
    elim (p file) as (λ b. Rise low high (cond b (file ∷ filter p files) (filter p files))) [
      | true ↦ (h.0, h.1, on)
      | false ↦ rise-weaker low (file.arrival + 1) high (filter p files) (omega (arith, h.0)) on
    ]

change-rises : (low high : ℕ) (g : QueuedFile → QueuedFile) → ((file : QueuedFile) → (g file).arrival ≡ file.arrival) → (files : List QueuedFile) → Rise low high files → Rise low high (map g files)
change-rises low high g same [] h = tt
change-rises low high g same (file ∷ files) h =
    let is : (g file).arrival ≡ file.arrival = same file in
    (omega (arith, h.0), omega (arith, h.1), subst (λ n. Rise (n + 1) high (map g files)) (sym is) (change-rises (file.arrival + 1) high g same files h.2))

pub filter-by_arrival : (next : ℕ) (p : QueuedFile → Bool) (queue : List QueuedFile) → IsBelow next queue → AreByArrival (filter p queue)
filter-by_arrival next p queue is = rise-pairs 0 next (filter p queue) (filter-rises 0 next p queue (rise-from 0 next queue (all_above queue) is.1 is.0))

pub change-by_arrival : (next : ℕ) (g : QueuedFile → QueuedFile) → ((file : QueuedFile) → (g file).arrival ≡ file.arrival) → (queue : List QueuedFile) → IsBelow next queue → AreByArrival (map g queue)
change-by_arrival next g same queue is = rise-pairs 0 next (map g queue) (change-rises 0 next g same queue (rise-from 0 next queue (all_above queue) is.1 is.0))
