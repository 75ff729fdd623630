use Rattle.std.proofs.Common.{◌-◌, ◌≤◌, take, drop, IsTrue}
use Rattle.disk_trait.specs.Images.{Stays}
use Rattle.sha2.specs.Hashers.{Holds256}
use Rattle.block_file.proofs.pieces.digest_at.Given as goal

abbrev pub invariant-loop-done : goal.invariant-loop-done
invariant-loop-done g l = record {
  within : l.done ≤ l.size;
  stays : Stays g.D.Disk.held g.D.Disk.moment g.D.Disk.images l.fn.disk l.disk;
  faults : g.D.Disk.faults l.fn.disk ≤ g.D.Disk.faults l.disk;
  holds : IsTrue g.D.Disk.tells → Holds256 l.hasher (take l.done (drop l.offset (g.D.Disk.held l.fn.disk l.file)));
}

abbrev pub decreases-loop-done : goal.decreases-loop-done
decreases-loop-done g l = l.size - l.done
