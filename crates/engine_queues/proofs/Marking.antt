-- Queues of which files are taken or given back: whose they are then.
use Rattle.std.proofs.Common.{◌≡◌, ℕ, zero, suc, ◌+◌, ◌<◌, ◌==◌, not, Bool, true, false, cond, List, [], ◌∷◌, length, map, drop, get_or, refl, sym, ap, subst, ◌∙◌, arith}
use Rattle.std.specs.Prelude.{All, Some}
use Rattle.std.specs.List.{list_any}
use Rattle.std.proofs.lemmas.Bool.{and_parts, or_parts, not-true}
use Rattle.std.proofs.lemmas.List.{drop_more}
use Rattle.std.proofs.lemmas.List.Elements.{All-nil, All-cons, All-head, All-tail}
use Rattle.flowfile_record.specs.NumberedItems.{AscendsByNumber}
use Rattle.flowfile_record.specs.Stored.{Kept}
use Rattle.flowfile_record.specs.declared.stored.ActiveFile.{ActiveFile}
use Rattle.kept_state.specs.Applied.{active_number}
use Rattle.kept_state.specs.Fits.{active_of, is_in_connection, are_active_in, are_distinct_numbers}
use Rattle.machine_model.specs.declared.flow.Flow.{Flow}
use Rattle.flow_queue.specs.Queue.{QueueState, flight_of, with_flight}
use Rattle.flow_queue.specs.declared.held.Held.{Held}
use Rattle.engine_queues.specs.Beside.{is_out}
use Rattle.engine_queues.specs.Queues.{AreQueuesOf}
use Rattle.engine_queues.specs.Settling.{changed_at, queue_marked, queues_marked, as_at_rest, without_flights, AreInQueue, HasFlight, MayBeMarked}
use Rattle.engine_queues.proofs.Changing.{files_at, length-changed, one_changes, same_files}
use Rattle.engine_queues.proofs.Flights.{held-marked, held-only, marked-one, others_unmarked, out_marked, out-marked, out-marked_next}
use Rattle.engine_queues.proofs.Held.{connection_within, found_in}

-- ---- which files are in flight

-- by other numbers of which the same are out
same-out : (flow : Flow) (k : Kept) (out other : List ℕ) (queues : List QueueState) → ((n : ℕ) → is_out out n ≡ is_out other n) → AreQueuesOf flow k out queues → AreQueuesOf flow k other queues
same-out flow k out other queues same are = same_files flow out other k k queues (λ place. held-only out other place k.files (all-same k.files)) are
  where
    all-same : (files : List ActiveFile) → All (λ (a : ActiveFile). is_out out (active_number a) ≡ is_out other (active_number a)) files
    all-same [] = All-nil (λ (a : ActiveFile). is_out out (active_number a) ≡ is_out other (active_number a))
    all-same (a ∷ files) = All-cons (λ (b : ActiveFile). is_out out (active_number b) ≡ is_out other (active_number b)) a files (same (active_number a)) (all-same files)

module _ (flow : Flow) (b : Bool) (k : Kept) (c : ℕ) (ascends : AscendsByNumber active_number k.files) where
  one-marked : (n : ℕ) (out : List ℕ) (queues : List QueueState) → AreQueuesOf flow k out queues → is_in_connection c (active_of n k.files) ≡ true
      → AreQueuesOf flow k (out_marked b (n ∷ []) out) (changed_at c (queue_marked b n) queues)
  one-marked n out queues are is =
      let other = out_marked b (n ∷ []) out in
      let same = marked-one b n out in
      one_changes flow out other k k c (queue_marked b n) queues are (λ queue. refl) (λ queue. refl) (λ queue. refl)
      (λ queue was. ap (with_flight n b) was ∙ held-marked b n out other c k.files same)
      (λ place ne. others_unmarked b n out other c place k.files same ascends is ne)

  all-marked : (numbers out : List ℕ) (queues : List QueueState) → AreQueuesOf flow k out queues → c < length queues → are_distinct_numbers numbers ≡ true → are_active_in k.files c numbers ≡ true
      → All (λ n. is_out out n ≡ not b) numbers → AreQueuesOf flow k (out_marked b numbers out) (queues_marked b c numbers queues) × MayBeMarked b c numbers queues
  all-marked [] out queues are within distinct active flights = (same-out flow k out (out_marked b [] out) queues (λ n. sym (out-marked b [] out n)) are, tt)
  all-marked (n ∷ numbers) out queues are within distinct active flights =
      let d = and_parts (not (list_any (λ m. m == n) numbers)) (are_distinct_numbers numbers) distinct in
      let a = and_parts (is_in_connection c (active_of n k.files)) (are_active_in k.files c numbers) active in
      let mid = out_marked b (n ∷ []) out in
      let next = changed_at c (queue_marked b n) queues in
      let step = one-marked n out queues are a.0 in
      let within_still : c < length next = omega (arith, within, length-changed c (queue_marked b n) queues) in
      let here : is_out out n ≡ not b = All-head (λ m. is_out out m ≡ not b) n numbers flights in
      let later = still-so n numbers out (not-true (list_any (λ m. m == n) numbers) d.0) (All-tail (λ m. is_out out m ≡ not b) n numbers flights) in
      let rest = all-marked numbers mid next step within_still d.1 a.1 later in
      let flight : HasFlight (not b) c n queues = record {
        within = within;
        there = λ queue got. ap (flight_of n) (files_at flow out k queues c queue are got) ∙ found_in out c n k.files a.0 ∙ ap Some here;
      } in
      (same-out flow k (out_marked b numbers mid) (out_marked b (n ∷ numbers) out) (queues_marked b c numbers next) (λ m. out-marked_next b n numbers out m) rest.0, (flight, rest.1))
    where
      still-so : (n : ℕ) (numbers out : List ℕ) → list_any (λ m. m == n) numbers ≡ false → All (λ m. is_out out m ≡ not b) numbers → All (λ m. is_out (out_marked b (n ∷ []) out) m ≡ not b) numbers
      still-so n [] out other all = All-nil (λ m. is_out (out_marked b (n ∷ []) out) m ≡ not b)
      still-so n (m ∷ numbers) out other all =
          let parts = or_parts (m == n) (list_any (λ j. j == n) numbers) other in
          let here : is_out (out_marked b (n ∷ []) out) m ≡ not b = marked-one b n out m ∙ ap (λ x. cond x b (is_out out m)) parts.0 ∙ All-head (λ j. is_out out j ≡ not b) m numbers all in
          All-cons (λ j. is_out (out_marked b (n ∷ []) out) j ≡ not b) m numbers here (still-so n numbers out parts.1 (All-tail (λ j. is_out out j ≡ not b) m numbers all))

-- the files of these numbers may be marked, and are then
pub marked : (flow : Flow) (b : Bool) (k : Kept) (out : List ℕ) (c : ℕ) (numbers : List ℕ) (queues : List QueueState) → AreInQueue flow k out (not b) c numbers queues
    → AreQueuesOf flow k (out_marked b numbers out) (queues_marked b c numbers queues) × MayBeMarked b c numbers queues
marked flow b k out c [] queues in_queue = (same-out flow k out (out_marked b [] out) queues (λ n. sym (out-marked b [] out n)) in_queue.of_kept, tt)
marked flow b k out c (n ∷ numbers) queues in_queue =
    let a = and_parts (is_in_connection c (active_of n k.files)) (are_active_in k.files c numbers) in_queue.active in
    let lt = connection_within k c n k.files in_queue.consistent.files a.0 in
    let within : c < length queues = omega (arith, lt, in_queue.connections, in_queue.of_kept.count) in
    all-marked flow b k c in_queue.consistent.numbers (n ∷ numbers) out queues in_queue.of_kept within in_queue.distinct in_queue.active in_queue.flights

-- ---- nothing else changes

rests : (n : ℕ) (b : Bool) (files : List Held) → map as_at_rest (with_flight n b files) ≡ map as_at_rest files
rests n b [] = refl
rests n b (held ∷ files) =
    let rest = rests n b files in
    elim (held.file.number == n) as (λ x. as_at_rest (cond x (record held { in_flight = b }) held) ∷ map as_at_rest (with_flight n b files) ≡ as_at_rest held ∷ map as_at_rest files) [
      | true ↦ ap (λ (l : List Held). as_at_rest held ∷ l) rest
      | false ↦ ap (λ (l : List Held). as_at_rest held ∷ l) rest
    ]

one-rests : (c n : ℕ) (b : Bool) (queues : List QueueState) → map without_flights (changed_at c (queue_marked b n) queues) ≡ map without_flights queues
one-rests c n b [] = refl
one-rests zero n b (queue ∷ queues) = λ i. record queue { files = rests n b queue.files i } ∷ map without_flights queues
one-rests (suc c) n b (queue ∷ queues) = ap (λ (l : List QueueState). without_flights queue ∷ l) (one-rests c n b queues)

pub all-rest : (b : Bool) (c : ℕ) (numbers : List ℕ) (queues : List QueueState) → map without_flights (queues_marked b c numbers queues) ≡ map without_flights queues
all-rest b c [] queues = refl
all-rest b c (n ∷ numbers) queues = all-rest b c numbers (changed_at c (queue_marked b n) queues) ∙ one-rests c n b queues

-- ---- one file after the other

pub one_marked : (b : Bool) (c i : ℕ) (numbers : List ℕ) (queues : List QueueState) → i < length numbers → MayBeMarked b c (drop i numbers) queues
    → HasFlight (not b) c (get_or numbers i 0) queues × MayBeMarked b c (drop (i + 1) numbers) (changed_at c (queue_marked b (get_or numbers i 0)) queues)
one_marked b c i numbers queues lt has = subst (λ (ns : List ℕ). MayBeMarked b c ns queues) (drop_more numbers i 0 lt) has
