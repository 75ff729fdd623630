use Rattle.std.proofs.Common.{◌≡◌, ℕ, ◌-◌, ◌/◌, ◌≤◌, List, IsTrue}
use Rattle.std.specs.Prelude.{Ok}
use Rattle.disk_trait.specs.Images.{After, Since, calls_later}
use Rattle.flowfile_record.specs.declared.event.Event.{Event}
use Rattle.flowfile_record.specs.declared.limits.TheConstants.{EVENTS_PER_FILE}
use Rattle.prov_store.specs.Aging.{AreUncounted}
use Rattle.prov_store.specs.Events.{events_file, events_of_files}
use Rattle.prov_store.specs.State.{AreFewer, CutsStale, files_between}
use Rattle.prov_store.proofs.Cutting.{CutSoFar}
use Rattle.prov_store.proofs.events.Events.age.Given as goal

abbrev pub invariant-loop-number : goal.invariant-loop-number
invariant-loop-number g l = record {
  from : l.fn.self.line / EVENTS_PER_FILE ≤ l.number;
  left : Since g.D.Disk.moment g.D.Disk.images l.fn.disk l.disk (After (CutsStale (files_between l.fn.self.line l.line)) (g.D.Disk.images l.fn.disk (g.D.Disk.moment l.fn.disk)));
  held : IsTrue g.D.Disk.tells → CutSoFar (l.number - l.fn.self.line / EVENTS_PER_FILE) (files_between l.fn.self.line l.line) (g.D.Disk.held l.fn.disk) (g.D.Disk.held l.disk);
  later : IsTrue g.D.Disk.tells → (k : ℕ) → l.number ≤ k → g.D.Disk.held l.disk (events_file k) ≡ g.D.Disk.held l.fn.disk (events_file k);
  uncounted : IsTrue g.D.Disk.tells → (gone : List Event) → events_of_files l.number l.fn.self.line l.fn.self.end 0 (g.D.Disk.held l.fn.disk) ≡ Ok gone
      → AreUncounted gone l.fn.self.counts l.counts.counts;
  fewer : AreFewer l.fn.self.counts l.counts.counts;
  faults : g.D.Disk.faults l.fn.disk ≤ g.D.Disk.faults l.disk;
  calls : g.D.Disk.moment l.disk ≡ calls_later (l.number - l.fn.self.line / EVENTS_PER_FILE) (g.D.Disk.moment l.fn.disk);
}
