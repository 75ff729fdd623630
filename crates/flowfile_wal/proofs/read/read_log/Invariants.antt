use Rattle.std.proofs.Common.{◌≡◌, ◌≤◌, ◌-◌, length, IsTrue}
use Rattle.disk_trait.specs.Files.{named}
use Rattle.disk_trait.specs.Images.{Stays}
use Rattle.disk_trait.specs.declared.file_name.FileKind.TheVariants.{Log}
use Rattle.flowfile_wal.specs.Calls.{HaveEncodings}
use Rattle.flowfile_wal.specs.Reads.{LogIsReadTo}
use Rattle.flowfile_wal.proofs.read.read_log.Given as goal

abbrev pub invariant-loop-entries : goal.invariant-loop-entries
invariant-loop-entries g l = record {
  within : l.end ≤ l.size;
  stays : Stays g.D.Disk.held g.D.Disk.moment g.D.Disk.images l.fn.disk l.disk;
  faults : g.D.Disk.faults l.fn.disk ≤ g.D.Disk.faults l.disk;
  encoded : HaveEncodings l.entries.items;
  size : IsTrue g.D.Disk.tells → l.size ≡ length (g.D.Disk.held l.fn.disk (named Log l.number));
  read : IsTrue g.D.Disk.tells → LogIsReadTo l.number l.begun.version l.end l.entries.items (g.D.Disk.held l.fn.disk (named Log l.number));
}

abbrev pub decreases-loop-entries : goal.decreases-loop-entries
decreases-loop-entries g l = l.size - l.end
