-- A queue whose files stand by arrival is seen as one whose files stand in another order.
use Rattle.std.proofs.Common.{◌≡◌, ℕ, ◌+◌, ◌-◌, ◌==◌, Bool, cond, List, [], map, length, drop, sym, ap, ◌∙◌}
use Rattle.std.specs.Prelude.{◌&&◌, ◌||◌, not, nat_le, nat_lt, filter, option_map, slice_get, sum_by, Option, None, Some}
use Rattle.std.specs.List.{list_all, list_any, enumerate_from, filter_map}
use Rattle.std.proofs.lemmas.List.Kept.{AllPairs-filter}
use Rattle.std.proofs.lemmas.List.Sorted.{IsPermutation-trans, length_permutation, sum_by-IsPermutation}
use Rattle.prioritizer.specs.declared.prioritizer.Prioritizer.{Prioritizer}
use Rattle.machine_model.specs.declared.flow.Connection.{Connection}
use Rattle.machine_model.specs.declared.flow.Flow.{Flow}
use Rattle.machine_model.specs.declared.flow.QueueLimits.{QueueLimits}
use Rattle.machine_model.specs.Due.{batch_size, expired_numbers, first_due, last_batch, lowest_batch, numbers_of, some_numbers}
use Rattle.machine_model.specs.Events.{ascending}
use Rattle.machine_model.specs.Laws.{ArrivalsDiffer}
use Rattle.machine_model.specs.Order.{eligible_files, in_order, is_eligible}
use Rattle.machine_model.specs.Quiet.{is_full, is_nothing_due_in}
use Rattle.machine_model.specs.View.{FileView, QueueView, is_expired, is_penalised}
use Rattle.machine_model.proofs.OnlyOrder.{in_order-only}
use Rattle.machine_model.proofs.Ordered.{in_order-permutes, in_order-ordered}
use Rattle.store_core.proofs.ByKey.{filter_fold}
use Rattle.engine_queues.specs.Laws.{SeesTheSame}
use Rattle.engine_queues.proofs.Arranged.{arranged, arranged-permutes, arranged-all, arranged-ascending}

-- ---- of one queue

abbrev pub arrival_of : FileView → ℕ
arrival_of file = file.arrival

-- the queue with its files by arrival
abbrev pub by_arrival : QueueView → QueueView
by_arrival queue = record { active = arranged arrival_of queue.active; batches = queue.batches }

-- what the engine asks of a queue is the same of both
pub record AreAlike (one other : QueueView) : Type 0 where
  pub eligible : (moment : ℕ) (order : List Prioritizer) (limits : QueueLimits)
      → eligible_files order limits moment one.active ≡ eligible_files order limits moment other.active
  pub expired : (moment : ℕ) (limits : QueueLimits) → expired_numbers limits moment one.active ≡ expired_numbers limits moment other.active
  pub last : (order : List Prioritizer) (limits : QueueLimits) → last_batch order limits one.active ≡ last_batch order limits other.active
  pub lowest : (limits : QueueLimits) → lowest_batch limits one ≡ lowest_batch limits other
  pub full : (limits : QueueLimits) → is_full limits one ≡ is_full limits other
  pub waits : (moment : ℕ) → list_all (λ file. not (is_penalised moment file)) one.active ≡ list_all (λ file. not (is_penalised moment file)) other.active

module _ (order : List Prioritizer) where
  same_order : (files : List FileView) → ArrivalsDiffer files → in_order order (arranged arrival_of files) ≡ in_order order files
  same_order files differ =
      let others = arranged arrival_of files in
      in_order-only order files (in_order order others) differ
      (IsPermutation-trans files others (in_order order others) (arranged-permutes arrival_of files) (in_order-permutes order others))
      (in_order-ordered order others)

  same_filtered : (p : FileView → Bool) (files : List FileView) → ArrivalsDiffer files → in_order order (filter p (arranged arrival_of files)) ≡ in_order order (filter p files)
  same_filtered p files differ =
      ap (in_order order) (filter_fold arrival_of p files [] tt)
      ∙ same_order (filter p files) (AllPairs-filter (λ one other. one.arrival ≡ other.arrival → ⊥) p files differ)

-- the numbers of those that pass two tests
same_numbers : (p q : FileView → Bool) (files : List FileView) → ascending (numbers_of (filter p (filter q (arranged arrival_of files)))) ≡ ascending (numbers_of (filter p (filter q files)))
same_numbers p q files =
    ap (λ (l : List FileView). ascending (numbers_of (filter p l))) (filter_fold arrival_of q files [] tt)
    ∙ ap (λ (l : List FileView). ascending (numbers_of l)) (filter_fold arrival_of p (filter q files) [] tt)
    ∙ arranged-ascending arrival_of (λ file. file.number) (filter p (filter q files))

-- which batch has to go, of the files in their order
abbrev last_of : QueueLimits → List FileView → Option (List ℕ)
last_of limits ordered =
    cond (nat_le (limits.swap + batch_size limits) (length ordered)) (Some (numbers_of (drop (length ordered - batch_size limits) ordered))) None

-- which batch has to come back, where so many files are active
abbrev lowest_of : QueueLimits → QueueView → ℕ → Option ℕ
lowest_of limits queue count = cond (nat_lt count limits.swap) (slice_get (ascending (map (λ batch. batch.number) queue.batches)) 0) None

abbrev full_of : QueueLimits → (files bytes : ℕ) → Bool
full_of limits files bytes = (nat_lt 0 limits.objects && nat_le limits.objects files) || (nat_lt 0 limits.bytes && nat_le limits.bytes bytes)

pub by_arrival-alike : (queue : QueueView) → ArrivalsDiffer queue.active → AreAlike queue (by_arrival queue)
by_arrival-alike queue differ =
    let files = queue.active in
    let others = arranged arrival_of files in
    let count : length others ≡ length files = length_permutation files others (arranged-permutes arrival_of files) in
    let bytes : sum_by (λ file. file.size) others ≡ sum_by (λ file. file.size) files
    = sum_by-IsPermutation (λ (file : FileView). file.size) files others (arranged-permutes arrival_of files) in
    let swapped = sum_by (λ batch. batch.files) queue.batches in
    let swapped_bytes = sum_by (λ batch. batch.size) queue.batches in
    record {
      eligible = λ moment order limits. sym (same_filtered order (is_eligible limits moment) files differ);
      expired = λ moment limits. sym (same_numbers (is_expired limits.expiration moment) (λ file. not file.in_flight) files);
      last = λ order limits. sym (ap (last_of limits) (same_filtered order (λ file. not file.in_flight) files differ));
      lowest = λ limits. sym (ap (lowest_of limits queue) count);
      full = λ limits. sym (λ i. full_of limits (count i + swapped) (bytes i + swapped_bytes));
      waits = λ moment. sym (arranged-all arrival_of (λ file. not (is_penalised moment file)) files);
    }

-- ---- of all queues of a flow

-- the first that owes something is the same where each owes the same
pub first_due-same : {X : Type 0} (owes : Connection → QueueView → Option X) (flow : Flow) (one other : ℕ → QueueView)
    → ((place : ℕ) (connection : Connection) → owes connection (one place) ≡ owes connection (other place)) → first_due owes flow one ≡ first_due owes flow other
first_due-same owes flow one other same = λ i. slice_get (filter_map (λ c. option_map (λ x. (c.0, x)) (same c.0 c.1 i)) (enumerate_from 0 flow.connections)) 0

module _ (flow : Flow) (one other : ℕ → QueueView) (alike : (place : ℕ) → AreAlike (one place) (other place)) where
  nothing_same : (moment : ℕ) (c : ℕ × Connection) → is_nothing_due_in one moment c ≡ is_nothing_due_in other moment c
  nothing_same moment c =
      let both = alike c.0 in
      λ i. (length (both.expired moment c.1.limits i) == 0) && both.waits moment i

  pub alike-same : SeesTheSame flow one other
  alike-same = record {
    eligible = λ place moment order limits. (alike place).eligible moment order limits;
    full = λ place limits. (alike place).full limits;
    expiry = λ moment. first_due-same (λ connection queue. some_numbers (expired_numbers connection.limits moment queue.active)) flow one other
        (λ place connection. ap some_numbers ((alike place).expired moment connection.limits));
    swap_out = first_due-same (λ connection queue. last_batch connection.order connection.limits queue.active) flow one other
        (λ place connection. (alike place).last connection.order connection.limits);
    swap_in = first_due-same (λ connection queue. lowest_batch connection.limits queue) flow one other (λ place connection. (alike place).lowest connection.limits);
    due = λ moment. λ i. list_all (λ c. nothing_same moment c i) (enumerate_from 0 flow.connections);
    held_back = λ processor. λ i. list_any (λ c. (c.1.source == processor.0) && (alike c.0).full c.1.limits i) (enumerate_from 0 flow.connections);
  }
