use Rattle.std.proofs.Common.{◌≡◌, ℕ, ◌+◌, ◌≤◌, List, length}
use Rattle.std.specs.Prelude.{All}
use Rattle.disk_trait.specs.Images.{Stays}
use Rattle.flowfile_record.specs.declared.event.Event.{Event}
use Rattle.prov_store.specs.Loading.{AreReadEvents}
use Rattle.prov_store.specs.State.{AreCounted}
use Rattle.prov_store.proofs.load.count_events.Given as goal

abbrev pub invariant-loop : goal.invariant-loop
invariant-loop g l = record {
  events : List Event;
  read : AreReadEvents g.D.Disk.tells (g.D.Disk.held l.fn.disk) l.fn.start l.counter events l.cursor.at;
  cursor : l.cursor ≡ record l.fn.start { at = l.cursor.at; number = l.fn.start.number + l.counter };
  counted : AreCounted events l.fn.counts.counts l.counts.counts;
  most : (most : ℕ) → All (λ n. n ≤ most) l.fn.counts.counts → All (λ n. n ≤ most + l.counter) l.counts.counts;
  long : length l.counts.counts ≡ 12;
  stays : Stays g.D.Disk.held g.D.Disk.moment g.D.Disk.images l.fn.disk l.disk;
  faults : g.D.Disk.faults l.fn.disk ≤ g.D.Disk.faults l.disk;
}
