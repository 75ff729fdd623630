use Rattle.std.proofs.Common.{◌≡◌, ℕ, ◌≤◌, List, ◌++◌, length, All, IsTrue}
use Rattle.std.specs.List.{flat_map}
use Rattle.flowfile_record.specs.declared.stored.ActiveFile.{ActiveFile}
use Rattle.record_codec.specs.ActiveFile.{IsActiveFile}
use Rattle.checkpoint_store.specs.Output.{HasFreeRoom}
use Rattle.checkpoint_store.specs.Put.{IsPut}
use Rattle.checkpoint_store.specs.Snapshot.{file_block}
use Rattle.checkpoint_store.proofs.writing.write_files.Given as goal

abbrev pub invariant-loop-active : goal.invariant-loop-active
invariant-loop-active g l = record {
  next : (goal.iterator-loop-active g).can_next l.active-iterator;
  finite : (goal.iterator-loop-active g).is_finite l.active-iterator;
  taken : List ActiveFile;
  split : l.fn.files.items ≡ taken ++ l.active-iterator;
  rest : All IsActiveFile l.active-iterator;
  room : HasFreeRoom l.out;
  reaches : IsTrue g.D.Disk.tells → l.out.offset ≤ length (g.D.Disk.held l.disk l.out.file);
  same : (l.out.file ≡ l.fn.out.file) × (l.out.longest ≡ l.fn.out.longest);
  faults : g.D.Disk.faults l.fn.disk ≤ g.D.Disk.faults l.disk;
  put : (start : _) (bytes : List ℕ)
      → IsPut g.D.Disk.tells g.D.Disk.held g.D.Disk.moment g.D.Disk.images l.fn.out.file start l.fn.disk l.fn.out.offset l.fn.out.piece.items bytes
      → IsPut g.D.Disk.tells g.D.Disk.held g.D.Disk.moment g.D.Disk.images l.fn.out.file start l.disk l.out.offset l.out.piece.items (bytes ++ flat_map file_block taken);
}
