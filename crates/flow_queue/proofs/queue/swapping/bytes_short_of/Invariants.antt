use Rattle.std.proofs.Common.{◌≡◌, ◌-◌}
use Rattle.std.specs.Prelude.{sum_by}
use Rattle.flow_queue.specs.declared.batch.Batch.{Batch}
use Rattle.flow_queue.proofs.queue.swapping.bytes_short_of.Given as goal

-- what is left, without those of the batches that are left
abbrev pub invariant-loop-batch : goal.invariant-loop-batch
invariant-loop-batch l = record {
  next : (goal.iterator-loop-batch).can_next l.batch-iterator;
  finite : (goal.iterator-loop-batch).is_finite l.batch-iterator;
  left : l.left - sum_by (λ (batch : Batch). batch.bytes) l.batch-iterator ≡ l.limit - sum_by (λ (batch : Batch). batch.bytes) l.batches.items;
}
