use Rattle.std.proofs.Common.{◌≡◌, ◌/◌, ◌≤◌}
use Rattle.disk_trait.specs.Images.{Stays}
use Rattle.flowfile_record.specs.declared.limits.TheConstants.{EVENTS_PER_FILE}
use Rattle.prov_store.specs.Loading.{AreListedStale, EventsAreLoaded}
use Rattle.prov_store.proofs.events.Events.load.Given as goal

abbrev pub invariant-loop-number : goal.invariant-loop-number
invariant-loop-number g l = record {
  line : l.loading.line ≡ l.fn.line;
  end : l.loading.end ≡ l.fn.end;
  loaded : EventsAreLoaded g.D.Disk.tells (g.D.Disk.held l.fn.disk) l.number l.loading;
  listed : AreListedStale g.D.Disk.tells (g.D.Disk.held l.fn.disk) (l.loading.line / EVENTS_PER_FILE) l.number l.loading.stale.items;
  stays : Stays g.D.Disk.held g.D.Disk.moment g.D.Disk.images l.fn.disk l.disk;
  faults : g.D.Disk.faults l.fn.disk ≤ g.D.Disk.faults l.disk;
}
