use Rattle.std.proofs.Common.{◌≡◌, ◌≤◌, length, take}
use Rattle.std.specs.Prelude.{IsTrue}
use Rattle.disk_trait.specs.Images.{Stays}
use Rattle.content_repo.specs.Claims.{content_in}
use Rattle.engine_session.specs.Handing.{AreReadOf, HaveRead}
use Rattle.engine_steps.proofs.reading.read_contents.Given as goal

abbrev pub invariant-loop-place : goal.invariant-loop-place
invariant-loop-place g l = record {
  count : length l.contents ≡ l.place;
  read : HaveRead l.fits (take l.place l.files) l.contents;
  told : IsTrue g.D.Disk.tells → AreReadOf (content_in (g.D.Disk.held l.fn.disk)) l.fits (take l.place l.files) l.contents;
  same : l.store ≡ l.fn.store;
  stays : Stays g.D.Disk.held g.D.Disk.moment g.D.Disk.images l.fn.disk l.disk;
  faults : g.D.Disk.faults l.fn.disk ≤ g.D.Disk.faults l.disk;
}
