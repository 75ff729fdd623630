use Rattle.std.proofs.Common.{◌≡◌, ◌≤◌, ◌-◌, ℕ, length, vec_capacity, IsTrue}
use Rattle.disk_trait.specs.Images.{Stays}
use Rattle.swap_store.specs.Memory.{BatchIsReadTo}
use Rattle.swap_store.specs.Taken.{AreTakenFiles}
use Rattle.swap_store.proofs.Steps.{ComesTo}
use Rattle.swap_store.proofs.reading.read_batch.Given as goal

abbrev pub invariant-loop-taken : goal.invariant-loop-taken
invariant-loop-taken g l = record {
  within : l.at ≤ l.source.size;
  stays : Stays g.D.Disk.held g.D.Disk.moment g.D.Disk.images l.fn.disk l.disk;
  faults : g.D.Disk.faults l.fn.disk ≤ g.D.Disk.faults l.disk;
  size : IsTrue g.D.Disk.tells → l.source.size ≡ length (g.D.Disk.held l.fn.disk l.source.file);
  taken : AreTakenFiles l.taken;
  few : length l.taken.files.items ≤ l.at;
  comes : IsTrue g.D.Disk.tells → ComesTo l.source.file (g.D.Disk.held l.fn.disk l.source.file) l.at l.taken.files.items;
  longest : ℕ;
  room : longest ≤ vec_capacity l.buffer;
  read_to : IsTrue g.D.Disk.tells → BatchIsReadTo (g.D.Disk.held l.fn.disk l.source.file) l.at l.taken.files.items longest;
}

abbrev pub decreases-loop-taken : goal.decreases-loop-taken
decreases-loop-taken g l = l.source.size - l.at
