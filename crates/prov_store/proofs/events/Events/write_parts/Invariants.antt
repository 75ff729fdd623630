use Rattle.std.proofs.Common.{◌≡◌, ◌-◌, ◌/◌, ◌≤◌, ◌++◌, List, length, take, drop, IsTrue}
use Rattle.disk_trait.specs.Images.{After, Since}
use Rattle.flowfile_record.specs.declared.event.Event.{Event}
use Rattle.prov_store.specs.Blocks.{blocks_of, AreEventParts}
use Rattle.prov_store.specs.Growing.{Stands}
use Rattle.prov_store.specs.State.{GrowsBehind}
use Rattle.disk_trait.specs.Images.{calls_later}
use Rattle.flowfile_record.specs.declared.limits.TheConstants.{EVENTS_PER_FILE}
use Rattle.prov_store.proofs.events.Events.write_parts.Given as goal

abbrev pub invariant-loop-part : goal.invariant-loop-part
invariant-loop-part g l = record {
  reached : l.fn.self.end ≤ l.place.end;
  there : l.place.end - l.fn.self.end ≤ length l.fn.blocks.events;
  start : l.start ≡ length (blocks_of (take (l.place.end - l.fn.self.end) l.fn.blocks.events));
  parts : AreEventParts l.place.end (drop l.part-index l.part-items) (drop (l.place.end - l.fn.self.end) l.fn.blocks.events);
  behind : l.place.end / EVENTS_PER_FILE ≡ l.fn.self.end / EVENTS_PER_FILE → l.fn.self.offset ≤ l.place.offset;
  stands : IsTrue g.D.Disk.tells → (before : List Event) → Stands l.fn.self.line l.fn.self.end l.fn.self.offset (g.D.Disk.held l.fn.disk) before
      → Stands l.fn.self.line l.place.end l.place.offset (g.D.Disk.held l.disk) (before ++ take (l.place.end - l.fn.self.end) l.fn.blocks.events);
  held : IsTrue g.D.Disk.tells → GrowsBehind l.fn.self (g.D.Disk.held l.fn.disk) (g.D.Disk.held l.disk);
  left : Since g.D.Disk.moment g.D.Disk.images l.fn.disk l.disk (After (GrowsBehind l.fn.self) (g.D.Disk.images l.fn.disk (g.D.Disk.moment l.fn.disk)));
  faults : g.D.Disk.faults l.fn.disk ≤ g.D.Disk.faults l.disk;
  calls : g.D.Disk.moment l.disk ≡ calls_later l.part-index (g.D.Disk.moment l.fn.disk);
}
