-- The batches of a queue: the lowest, and how many files and bytes they have.
use Rattle.std.proofs.Common.{◌≡◌, ℕ, ◌+◌, ◌-◌, ◌<◌, ◌≤◌, min, nat_le, inl, inr, true, false, cond, List, [], ◌∷◌, length, map, Option, Some, None, refl, sym, ap, ◌∙◌, arith}
use Rattle.std.specs.Prelude.{fold, slice_get, sum_by}
use Rattle.std.specs.List.{reduce}
use Rattle.std.proofs.lemmas.Bool.{cases_lt, le-leb, le-ltb, lt-leb, lt-ltb}
use Rattle.std.proofs.lemmas.List.{length-map}
use Rattle.std.proofs.lemmas.List.Sums.{sum_by-cons}
use Rattle.std.proofs.lemmas.Simd.{map-map}
use Rattle.machine_model.specs.Due.{lowest_batch}
use Rattle.machine_model.specs.Events.{ascending, put_ascending}
use Rattle.machine_model.specs.View.{FileView, BatchView, byte_count, file_count}
use Rattle.flow_queue.specs.declared.batch.Batch.{Batch}
use Rattle.flow_queue.specs.declared.held.Held.{Held}
use Rattle.flow_queue.specs.Queue.{QueueState, queue_as_seen, seen_batch, views_of, held_bytes, held_view}
use Rattle.flow_queue.specs.Swapping.{number_of_batch}

-- ---- the lowest

-- the least of some numbers and one more
abbrev least_with : ℕ → Option ℕ → ℕ
least_with n None = n
least_with n (Some m) = min n m

first-put : (n : ℕ) (ns : List ℕ) → slice_get (put_ascending n ns) 0 ≡ Some (least_with n (slice_get ns 0))
first-put n [] = refl
first-put n (m ∷ ns) = elim (cases_lt m n) [
  | inl lt ↦ let no : nat_le n m ≡ false = lt-leb n m lt in rw no (let is : m ≡ min n m = omega (arith, lt) in ap (λ (k : ℕ). Some k) is)
  | inr ge ↦ let yes : nat_le n m ≡ true = le-leb n m ge in rw yes (let is : n ≡ min n m = omega (arith, ge) in ap (λ (k : ℕ). Some k) is)
]

least-nested : (n m : ℕ) (o : Option ℕ) → least_with (min n m) o ≡ min n (least_with m o)
least-nested n m None = refl
least-nested n m (Some k) = omega arith

fold-least : (n : ℕ) (ns : List ℕ) → fold min n ns ≡ least_with n (slice_get (ascending ns) 0)
fold-least n [] = refl
fold-least n (m ∷ ns) =
    fold-least (min n m) ns ∙ least-nested n m (slice_get (ascending ns) 0) ∙ ap (least_with n) (sym (first-put m (ascending ns)))

least-first : (ns : List ℕ) → reduce min ns ≡ slice_get (ascending ns) 0
least-first [] = refl
least-first (n ∷ ns) = ap (λ (k : ℕ). Some k) (fold-least n ns) ∙ sym (first-put n (ascending ns))

module _ (queue : QueueState) where
  seen-numbers : map number_of_batch queue.batches ≡ map (λ (batch : BatchView). batch.number) (map seen_batch queue.batches)
  seen-numbers = sym (map-map (λ (batch : BatchView). batch.number) seen_batch queue.batches)

  pub none-in : queue.limits.swap ≤ length queue.files → None ≡ lowest_batch queue.limits (queue_as_seen queue)
  none-in many =
      sym (ap (λ b. cond b (slice_get (ascending (map (λ (batch : BatchView). batch.number) (map seen_batch queue.batches))) 0) None)
      (le-ltb (length (views_of queue.files)) queue.limits.swap (omega (arith, many, length-map queue.files held_view))))

  pub lowest-in : length queue.files < queue.limits.swap → reduce min (map number_of_batch queue.batches) ≡ lowest_batch queue.limits (queue_as_seen queue)
  lowest-in few =
      ap (reduce min) seen-numbers ∙ least-first (map (λ (batch : BatchView). batch.number) (map seen_batch queue.batches))
      ∙ sym (ap (λ b. cond b (slice_get (ascending (map (λ (batch : BatchView). batch.number) (map seen_batch queue.batches))) 0) None)
      (lt-ltb (length (views_of queue.files)) queue.limits.swap (omega (arith, few, length-map queue.files held_view))))

-- ---- what the queue holds with them

pub sums-seen : (f : BatchView → ℕ) (batches : List Batch) → sum_by f (map seen_batch batches) ≡ sum_by (λ batch. f (seen_batch batch)) batches
sums-seen f [] = refl
sums-seen f (batch ∷ batches) =
    sum_by-cons f (seen_batch batch) (map seen_batch batches) ∙ ap (λ n. f (seen_batch batch) + n) (sums-seen f batches)
    ∙ sym (sum_by-cons (λ (b : Batch). f (seen_batch b)) batch batches)

-- ---- limits

-- what is short of a limit without the batches is short of it with them
pub same-test : (limit swapped active total : ℕ) → total ≡ active + swapped → nat_le (limit - swapped) active ≡ nat_le limit total
same-test limit swapped active total is = elim (cases_lt total limit) [
  | inl lt ↦ lt-leb (limit - swapped) active (omega (arith, is, lt)) ∙ sym (lt-leb limit total lt)
  | inr ge ↦ le-leb (limit - swapped) active (omega (arith, is, ge)) ∙ sym (le-leb limit total ge)
]

module _ (queue : QueueState) where
  pub files-test : nat_le (queue.limits.objects - sum_by (λ (batch : Batch). batch.files) queue.batches) (length queue.files) ≡ nat_le queue.limits.objects (file_count (queue_as_seen queue))
  files-test =
      same-test queue.limits.objects (sum_by (λ (batch : Batch). batch.files) queue.batches) (length queue.files) (file_count (queue_as_seen queue))
      (omega (arith, length-map queue.files held_view, sums-seen (λ (batch : BatchView). batch.files) queue.batches))

  pub bytes-test : nat_le (queue.limits.bytes - sum_by (λ (batch : Batch). batch.bytes) queue.batches) (sum_by held_bytes queue.files) ≡ nat_le queue.limits.bytes (byte_count (queue_as_seen queue))
  bytes-test =
      same-test queue.limits.bytes (sum_by (λ (batch : Batch). batch.bytes) queue.batches) (sum_by held_bytes queue.files) (byte_count (queue_as_seen queue))
      (omega (arith, views-weigh queue.files, sums-seen (λ (batch : BatchView). batch.size) queue.batches))
    where
      views-weigh : (files : List Held) → sum_by (λ (file : FileView). file.size) (views_of files) ≡ sum_by held_bytes files
      views-weigh [] = refl
      views-weigh (held ∷ files) =
          sum_by-cons (λ (file : FileView). file.size) (held_view held) (views_of files) ∙ ap (λ n. held_bytes held + n) (views-weigh files) ∙ sym (sum_by-cons held_bytes held files)
