use Rattle.std.proofs.Common.{◌≡◌, ◌+◌, ◌≤◌, List, IsTrue, take}
use Rattle.std.specs.Prelude.{Ok}
use Rattle.disk_trait.specs.Images.{Stays}
use Rattle.flowfile_record.specs.declared.event.Event.{Event}
use Rattle.prov_store.specs.Aging.{AreUncounted}
use Rattle.prov_store.specs.Events.{events_from, blocks_size}
use Rattle.prov_store.specs.Loading.{bytes_there}
use Rattle.prov_store.specs.State.{AreFewer}
use Rattle.prov_store.proofs.age.uncount_events.Given as goal

abbrev pub invariant-loop : goal.invariant-loop
invariant-loop g l = record {
  cursor : l.cursor ≡ record l.fn.start { at = l.cursor.at; number = l.fn.start.number + l.counter };
  within : l.cursor.at ≤ l.fn.start.size;
  reaches : IsTrue g.D.Disk.tells → (events : List Event)
      → events_from l.many l.fn.start.file l.fn.start.at l.fn.start.number (bytes_there (g.D.Disk.held l.fn.disk) l.fn.start) ≡ Ok events
      → l.cursor.at ≡ l.fn.start.at + blocks_size l.counter (bytes_there (g.D.Disk.held l.fn.disk) l.fn.start);
  uncounted : IsTrue g.D.Disk.tells → (events : List Event)
      → events_from l.many l.fn.start.file l.fn.start.at l.fn.start.number (bytes_there (g.D.Disk.held l.fn.disk) l.fn.start) ≡ Ok events
      → AreUncounted (take l.counter events) l.fn.counts.counts l.counts.counts;
  fewer : AreFewer l.fn.counts.counts l.counts.counts;
  stays : Stays g.D.Disk.held g.D.Disk.moment g.D.Disk.images l.fn.disk l.disk;
  faults : g.D.Disk.faults l.fn.disk ≤ g.D.Disk.faults l.disk;
}
