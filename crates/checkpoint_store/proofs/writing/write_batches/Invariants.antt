use Rattle.std.proofs.Common.{◌≡◌, ℕ, ◌≤◌, List, ◌++◌, length, All, IsTrue}
use Rattle.std.specs.List.{flat_map}
use Rattle.flowfile_record.specs.declared.stored.SwapBatch.{SwapBatch}
use Rattle.record_codec.specs.Snapshot.{IsBatch}
use Rattle.checkpoint_store.specs.Output.{HasFreeRoom}
use Rattle.checkpoint_store.specs.Put.{IsPut}
use Rattle.checkpoint_store.specs.Snapshot.{batch_block}
use Rattle.checkpoint_store.proofs.writing.write_batches.Given as goal

abbrev pub invariant-loop-batch : goal.invariant-loop-batch
invariant-loop-batch g l = record {
  next : (goal.iterator-loop-batch g).can_next l.batch-iterator;
  finite : (goal.iterator-loop-batch g).is_finite l.batch-iterator;
  taken : List SwapBatch;
  split : l.fn.batches.items ≡ taken ++ l.batch-iterator;
  rest : All IsBatch l.batch-iterator;
  room : HasFreeRoom l.out;
  reaches : IsTrue g.D.Disk.tells → l.out.offset ≤ length (g.D.Disk.held l.disk l.out.file);
  same : (l.out.file ≡ l.fn.out.file) × (l.out.longest ≡ l.fn.out.longest);
  faults : g.D.Disk.faults l.fn.disk ≤ g.D.Disk.faults l.disk;
  put : (start : _) (bytes : List ℕ)
      → IsPut g.D.Disk.tells g.D.Disk.held g.D.Disk.moment g.D.Disk.images l.fn.out.file start l.fn.disk l.fn.out.offset l.fn.out.piece.items bytes
      → IsPut g.D.Disk.tells g.D.Disk.held g.D.Disk.moment g.D.Disk.images l.fn.out.file start l.disk l.out.offset l.out.piece.items (bytes ++ flat_map batch_block taken);
}
