use Rattle.std.proofs.Common.{◌≡◌, ◌+◌, ◌++◌, ◌≤◌, List}
use Rattle.disk_trait.specs.Images.{Stays}
use Rattle.flowfile_record.specs.declared.event.Event.{Event}
use Rattle.prov_store.specs.Loading.{AreReadEvents}
use Rattle.prov_store.proofs.scan.read_events.Given as goal

abbrev pub invariant-loop : goal.invariant-loop
invariant-loop g l = record {
  events : List Event;
  read : AreReadEvents g.D.Disk.tells (g.D.Disk.held l.fn.disk) l.fn.start l.counter events l.cursor.at;
  cursor : l.cursor ≡ record l.fn.start { at = l.cursor.at; number = l.fn.start.number + l.counter };
  items : l.found.items ≡ l.fn.found.items ++ events;
  stays : Stays g.D.Disk.held g.D.Disk.moment g.D.Disk.images l.fn.disk l.disk;
  faults : g.D.Disk.faults l.fn.disk ≤ g.D.Disk.faults l.disk;
}
