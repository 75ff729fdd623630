use Rattle.std.proofs.Common.{◌≡◌, ◌-◌, ◌≤◌, length, take, drop, IsTrue}
use Rattle.disk_trait.specs.Images.{Stays}
use Rattle.content_repo.proofs.still.are_at.Given as goal

abbrev pub invariant-loop-done : goal.invariant-loop-done
invariant-loop-done g l = record {
  within : l.done ≤ length l.bytes;
  stays : Stays g.D.Disk.held g.D.Disk.moment g.D.Disk.images l.fn.disk l.disk;
  faults : g.D.Disk.faults l.fn.disk ≤ g.D.Disk.faults l.disk;
  same : IsTrue g.D.Disk.tells → take l.done (drop l.offset (g.D.Disk.held l.fn.disk l.file)) ≡ take l.done l.bytes;
}

abbrev pub decreases-loop-done : goal.decreases-loop-done
decreases-loop-done g l = length l.bytes - l.done
