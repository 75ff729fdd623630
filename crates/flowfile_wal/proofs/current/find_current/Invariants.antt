use Rattle.std.proofs.Common.{◌≡◌, ℕ, ◌<◌, ◌≤◌, ◌^◌, true, length, IsTrue}
use Rattle.std.specs.List.{AllPairs, Contains}
use Rattle.disk_trait.specs.Files.{named}
use Rattle.disk_trait.specs.Images.{Stays}
use Rattle.disk_trait.specs.declared.file_name.FileKind.TheVariants.{Log}
use Rattle.record_codec.specs.Frames.{counts}
use Rattle.flowfile_wal.proofs.current.find_current.Given as goal

abbrev pub invariant-loop-number : goal.invariant-loop-number
invariant-loop-number g l = record {
  stays : Stays g.D.Disk.held g.D.Disk.moment g.D.Disk.images l.fn.disk l.disk;
  faults : g.D.Disk.faults l.fn.disk ≤ g.D.Disk.faults l.disk;
  ascending : AllPairs (λ x y. x < y) l.logs.items;
  counted : IsTrue g.D.Disk.tells → (n : ℕ) → n < 2 ^ 64 → counts (g.D.Disk.held l.fn.disk (named Log n)) ≡ true → Contains l.logs.items n;
}

abbrev pub decreases-loop-number : goal.decreases-loop-number
decreases-loop-number g l = length l.logs.items
