use Rattle.std.proofs.Common.{◌≡◌, ◌≤◌, ◌-◌, List, IsTrue}
use Rattle.std.specs.Prelude.{All, Ok, filter, map, min}
use Rattle.disk_trait.specs.Images.{Stays}
use Rattle.flowfile_record.specs.declared.event.Event.{Event}
use Rattle.prov_store.specs.Events.{events_of_files, first_event}
use Rattle.prov_store.specs.Scanning.{is_within, SameScan, StandsInItsFile, numbers_between}
use Rattle.prov_store.proofs.scan.Scan.scan_files.Given as goal

abbrev pub invariant-loop-number : goal.invariant-loop-number
invariant-loop-number g l = record {
  same : SameScan l.fn.self l.self;
  found : IsTrue g.D.Disk.tells → (events : List Event) → events_of_files l.number l.fn.self.line l.fn.self.end 0 (g.D.Disk.held l.fn.disk) ≡ Ok events
      → l.self.found.items ≡ filter (is_within l.fn.self.first l.fn.self.last) events;
  numbered : map (λ e. e.number) l.self.found.items ≡ numbers_between l.fn.self.first (min l.fn.self.last (first_event l.number - 1));
  stand : IsTrue g.D.Disk.tells → All (StandsInItsFile (g.D.Disk.held l.fn.disk)) l.self.found.items;
  stays : Stays g.D.Disk.held g.D.Disk.moment g.D.Disk.images l.fn.disk l.disk;
  faults : g.D.Disk.faults l.fn.disk ≤ g.D.Disk.faults l.disk;
}
