use Rattle.std.proofs.Common.{◌≡◌, ℕ, ◌+◌, ◌*◌, ◌^◌, ◌<◌, ◌≤◌, ◌==◌, filter, length}
use Rattle.std.specs.List.{sum_by}
use Rattle.flow_report.specs.Counts.{counted_bytes, files_at}
use Rattle.flow_report.specs.declared.count.TheConstants.{COUNTED}
use Rattle.flow_report.proofs.count.count_swapped.Given as goal

abbrev pub invariant-loop-batch : goal.invariant-loop-batch
invariant-loop-batch l = record {
  next : (goal.iterator-loop-batch).can_next l.batch-iterator;
  finite : (goal.iterator-loop-batch).is_finite l.batch-iterator;
  first : l.counts.first ≡ l.fn.first;
  files : (at : ℕ) → at < COUNTED → files_at l.counts at + sum_by (λ batch. batch.files) (filter (λ batch. batch.connection == l.fn.first + at) l.batch-iterator)
      ≡ sum_by (λ batch. batch.files) (filter (λ batch. batch.connection == l.fn.first + at) l.fn.batches.items);
  bytes : (at : ℕ) → at < COUNTED → counted_bytes l.counts at + sum_by (λ batch. batch.bytes) (filter (λ batch. batch.connection == l.fn.first + at) l.batch-iterator)
      ≡ sum_by (λ batch. batch.bytes) (filter (λ batch. batch.connection == l.fn.first + at) l.fn.batches.items);
  few : (at : ℕ) → at < COUNTED → files_at l.counts at + length l.batch-iterator * 2 ^ 64 ≤ length l.fn.batches.items * 2 ^ 64;
  fits : (at : ℕ) → at < COUNTED → counted_bytes l.counts at + length l.batch-iterator * 2 ^ 64 ≤ length l.fn.batches.items * 2 ^ 64;
}
