use Rattle.std.proofs.Common.{◌≡◌, ◌≤◌, ◌<◌, ◌+◌, ◌-◌, ℕ, length, drop, IsTrue, vec_capacity}
use Rattle.disk_trait.specs.Images.{Stays}
use Rattle.flowfile_record.specs.Stored.{kept_of}
use Rattle.checkpoint_store.specs.Memory.{IsReadTo}
use Rattle.checkpoint_store.specs.Reading.{blocks_from, snapshot_of}
use Rattle.checkpoint_store.specs.SoFar.{IsSoFar}
use Rattle.checkpoint_store.specs.declared.unread.TheConstants.{SMALL_BLOCK_SIZE}
use Rattle.checkpoint_store.proofs.reading.read.Given as goal

abbrev pub invariant-loop-so_far : goal.invariant-loop-so_far
invariant-loop-so_far g l = record {
  within : l.at ≤ l.source.size;
  stays : Stays g.D.Disk.held g.D.Disk.moment g.D.Disk.images l.fn.disk l.disk;
  faults : g.D.Disk.faults l.fn.disk ≤ g.D.Disk.faults l.disk;
  size : IsTrue g.D.Disk.tells → l.source.size ≡ length (g.D.Disk.held l.fn.disk l.source.file);
  so_far : IsSoFar l.so_far;
  version : l.so_far.version ≡ l.version;
  room : SMALL_BLOCK_SIZE ≤ vec_capacity l.buffer;
  read_to : IsTrue g.D.Disk.tells → IsReadTo l.version (g.D.Disk.held l.fn.disk l.source.file) l.at (kept_of l.so_far.state) (vec_capacity l.buffer);
  most : ℕ;
  enough : IsTrue g.D.Disk.tells → l.source.size < l.at + most;
  read : IsTrue g.D.Disk.tells → snapshot_of l.version l.source.file (g.D.Disk.held l.fn.disk l.source.file) ≡ blocks_from most l.source.file l.at (kept_of l.so_far.state) (drop l.at (g.D.Disk.held l.fn.disk l.source.file));
}

abbrev pub decreases-loop-so_far : goal.decreases-loop-so_far
decreases-loop-so_far g l = l.source.size - l.at
