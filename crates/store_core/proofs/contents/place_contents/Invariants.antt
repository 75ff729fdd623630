use Rattle.std.proofs.Common.{◌≡◌, ◌≤◌, IsTrue}
use Rattle.disk_trait.specs.Images.{After, Since}
use Rattle.record_codec.specs.Placeless.{placeless_entry}
use Rattle.content_repo.specs.Claims.{HasSizes}
use Rattle.store_core.specs.Placing.{ClaimsGrowBehind}
use Rattle.store_core.proofs.Placing.{IsLeftToWrite, IsPlacedTo}
use Rattle.store_core.proofs.contents.place_contents.Given as goal

abbrev pub invariant-loop-place : goal.invariant-loop-place
invariant-loop-place g l = record {
  since : Since g.D.Disk.moment g.D.Disk.images l.fn.disk l.disk (After (ClaimsGrowBehind l.fn.contents) (g.D.Disk.images l.fn.disk (g.D.Disk.moment l.fn.disk)));
  faults : g.D.Disk.faults l.fn.disk ≤ g.D.Disk.faults l.disk;
  held : IsTrue g.D.Disk.tells → ClaimsGrowBehind l.fn.contents (g.D.Disk.held l.fn.disk) (g.D.Disk.held l.disk);
  sizes : IsTrue g.D.Disk.tells → HasSizes l.contents (g.D.Disk.held l.disk);
  left : IsLeftToWrite l.placed l.place (g.D.Disk.moment l.fn.disk) (g.D.Disk.moment l.disk);
  same : placeless_entry l.entry ≡ placeless_entry l.fn.entry;
  placed : IsPlacedTo g.D.Disk.tells l.placed l.fn.contents l.contents (g.D.Disk.held l.disk) l.entry l.place;
}
