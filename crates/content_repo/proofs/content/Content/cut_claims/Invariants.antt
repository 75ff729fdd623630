use Rattle.std.proofs.Common.{◌≡◌, ℕ, ◌<◌, ◌≤◌, take, slice_index, IsTrue}
use Rattle.disk_trait.specs.Images.{After, Since}
use Rattle.content_repo.specs.Claims.{claim, OnClaims, ShortenedTo}
use Rattle.content_repo.specs.Slots.{size_of}
use Rattle.content_repo.proofs.ClaimFiles.{MaybeCut}
use Rattle.content_repo.proofs.content.Content.cut_claims.Given as goal

abbrev pub invariant-loop-number : goal.invariant-loop-number
invariant-loop-number g l = record {
  since : Since g.D.Disk.moment g.D.Disk.images l.fn.disk l.disk (After (ShortenedTo (size_of l.self)) (g.D.Disk.images l.fn.disk (g.D.Disk.moment l.fn.disk)));
  faults : g.D.Disk.faults l.fn.disk ≤ g.D.Disk.faults l.disk;
  so_far : IsTrue g.D.Disk.tells → OnClaims (λ k. MaybeCut (size_of l.self k)) (g.D.Disk.held l.fn.disk) (g.D.Disk.held l.disk);
  done : IsTrue g.D.Disk.tells → (i : ℕ) → i < l.number-index
      → g.D.Disk.held l.disk (claim (slice_index l.number-items i)) ≡ take (size_of l.self (slice_index l.number-items i)) (g.D.Disk.held l.fn.disk (claim (slice_index l.number-items i)));
}
