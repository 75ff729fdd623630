use Rattle.std.proofs.Common.{◌≡◌, ◌⊎◌, ℕ, ◌<◌, ◌≤◌, length, true, slice_index, IsTrue}
use Rattle.disk_trait.specs.Files.{named}
use Rattle.disk_trait.specs.Images.{After, Since}
use Rattle.store_core.specs.Discard.{spares, CutsKind}
use Rattle.store_core.proofs.discard.cut_kind.Given as goal

abbrev pub invariant-loop-number : goal.invariant-loop-number
invariant-loop-number g l = record {
  since : Since g.D.Disk.moment g.D.Disk.images l.fn.disk l.disk
      (After (CutsKind l.kind (spares l.spared) l.size) (g.D.Disk.images l.fn.disk (g.D.Disk.moment l.fn.disk)));
  faults : g.D.Disk.faults l.fn.disk ≤ g.D.Disk.faults l.disk;
  cut : IsTrue g.D.Disk.tells → CutsKind l.kind (spares l.spared) l.size (g.D.Disk.held l.fn.disk) (g.D.Disk.held l.disk);
  done : IsTrue g.D.Disk.tells → (i : ℕ) → i < l.number-index
      → (spares l.spared (slice_index l.number-items i) ≡ true) ⊎ (length (g.D.Disk.held l.disk (named l.kind (slice_index l.number-items i))) ≤ l.size);
}
