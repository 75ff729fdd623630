use Rattle.std.proofs.Common.{◌≡◌, ◌≤◌, IsTrue}
use Rattle.disk_trait.specs.Images.{After, Since}
use Rattle.prov_store.specs.State.{CutsStale}
use Rattle.disk_trait.specs.Images.{calls_later}
use Rattle.prov_store.proofs.Cutting.{CutSoFar}
use Rattle.prov_store.proofs.events.Events.trim.Given as goal

abbrev pub invariant-loop-stale : goal.invariant-loop-stale
invariant-loop-stale g l = record {
  list : l.stale-items ≡ l.fn.self.stale;
  left : Since g.D.Disk.moment g.D.Disk.images l.fn.disk l.disk (After (CutsStale l.fn.self.stale) (g.D.Disk.images l.fn.disk (g.D.Disk.moment l.fn.disk)));
  held : IsTrue g.D.Disk.tells → CutSoFar l.stale-index l.fn.self.stale (g.D.Disk.held l.fn.disk) (g.D.Disk.held l.disk);
  faults : g.D.Disk.faults l.fn.disk ≤ g.D.Disk.faults l.disk;
  calls : g.D.Disk.moment l.disk ≡ calls_later l.stale-index (g.D.Disk.moment l.fn.disk);
}
