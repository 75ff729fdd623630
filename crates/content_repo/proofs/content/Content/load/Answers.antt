use Rattle.std.proofs.Common.{◌≡◌, ℕ, ◌≤◌, length, take, subst, ap, ◌∙◌, arith, length-take}
use Rattle.disk_trait.specs.Files.{Shortened}
use Rattle.disk_trait.proofs.Moments.{wider}
use Rattle.content_repo.specs.Claims.{claim}
use Rattle.content_repo.specs.Slots.{size_of, covered}
use Rattle.content_repo.proofs.ClaimFiles.{OnClaims-wider}
use Rattle.content_repo.proofs.Cuts.{covered_within}
use Rattle.content_repo.proofs.content.Content.load.Goals as goal

pub cut_claims-requires-after_bounds : goal.cut_claims-requires-after_bounds
cut_claims-requires-after_bounds g c first second told k =
    rw (c.hold_all.ensures.loaded.size k) (covered_within k c.args.live.now (g.D.Disk.held c.args.disk.now) (c.requires.within told))

pub returns-in_err-cut_claims-clause-images : goal.returns-in_err-cut_claims-clause-images
returns-in_err-cut_claims-clause-images g c =
    wider g.D.Disk.moment g.D.Disk.images c.args.disk.now c.cut_claims.new.disk _ _ c.cut_claims.ensures.images
    (λ files after. (
      after.0,
      after.1,
      OnClaims-wider (λ k. Shortened (size_of c.hold_all.new.self k)) (λ k. Shortened (covered k c.args.live.now)) after.0 files
          (λ k a b step. subst (λ (n : ℕ). Shortened n a b) (c.hold_all.ensures.loaded.size k) step) after.2,
    ))

pub returns-clause-images : goal.returns-clause-images
returns-clause-images g c =
    wider g.D.Disk.moment g.D.Disk.images c.args.disk.now c.cut_claims.new.disk _ _ c.cut_claims.ensures.images
    (λ files after. (
      after.0,
      after.1,
      OnClaims-wider (λ k. Shortened (size_of c.hold_all.new.self k)) (λ k. Shortened (covered k c.args.live.now)) after.0 files
          (λ k a b step. subst (λ (n : ℕ). Shortened n a b) (c.hold_all.ensures.loaded.size k) step) after.2,
    ))

pub returns-clause-cut : goal.returns-clause-cut
returns-clause-cut g c told =
    let old = g.D.Disk.held c.args.disk.now in
    let new = g.D.Disk.held c.cut_claims.new.disk in
    let slots = c.hold_all.new.self in
    let loaded = c.hold_all.ensures.loaded in
    let cut = c.in_ok-cut_claims.ensures.cut told in
    let within = c.requires.within told in
    record {
      claims = record {
        claims = λ k. subst (λ (n : ℕ). new (claim k) ≡ take n (old (claim k))) (loaded.size k) (cut.claims k);
        others = cut.others;
      };
      sizes = λ k.
          let fits : size_of slots k ≤ length (old (claim k)) = rw (loaded.size k) (covered_within k c.args.live.now old within) in
          ap length (cut.claims k) ∙ length-take (size_of slots k) (old (claim k)) ∙ omega (arith, fits);
    }
