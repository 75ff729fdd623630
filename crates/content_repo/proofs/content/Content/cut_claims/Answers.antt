use Rattle.std.proofs.Common.{◌≡◌, ℕ, ◌^◌, ◌<◌, List, length, take, slice_index, subst, sym, ap, ◌∙◌, inl, inr, arith}
use Rattle.std.proofs.lemmas.Bool.{cases_lt}
use Rattle.std.proofs.lemmas.List.{get_or_default}
use Rattle.disk_trait.specs.Files.{At, Shortened}
use Rattle.content_repo.specs.Claims.{claim}
use Rattle.content_repo.specs.Slots.{size_of}
use Rattle.content_repo.proofs.ClaimFiles.{Shortened-refl, Shortened-trans, since_more}
use Rattle.content_repo.proofs.Cuts.{cut_here, cut_kept, cut_onward, cut_whole}
use Rattle.content_repo.proofs.content.Content.cut_claims.Goals as goal

pub returns-in_err-cut_claim-clause-images : goal.returns-in_err-cut_claim-clause-images
returns-in_err-cut_claim-clause-images g c =
    let ends = size_of c.args.self.now in
    let k = slice_index c.deref-number-items.result.now c.loop-number.number-index in
    since_more (λ j. Shortened (ends j)) (λ j. Shortened-refl (ends j)) (λ j. Shortened-trans (ends j)) g.D.Disk.moment g.D.Disk.images
    c.args.disk.now c.loop-number.disk c.cut_claim.new.disk k (Shortened c.size_at.result)
    c.loop-number.invariant.since c.cut_claim.ensures.images (λ a b step. subst (λ (n : ℕ). Shortened n a b) c.size_at.ensures step)

pub loop-number-preserved : goal.loop-number-preserved
loop-number-preserved g c =
    let ends = size_of c.args.self.now in
    let list = c.deref-number-items.result.now in
    let index = c.loop-number.number-index in
    let k = slice_index list index in
    let old = g.D.Disk.held c.args.disk.now in
    let now = g.D.Disk.held c.loop-number.disk in
    let new = g.D.Disk.held c.cut_claim.new.disk in
    let inv = c.loop-number.invariant in
    record {
      since =
          since_more (λ j. Shortened (ends j)) (λ j. Shortened-refl (ends j)) (λ j. Shortened-trans (ends j)) g.D.Disk.moment g.D.Disk.images
          c.args.disk.now c.loop-number.disk c.cut_claim.new.disk k (Shortened c.size_at.result)
          inv.since c.cut_claim.ensures.images (λ a b step. subst (λ (n : ℕ). Shortened n a b) c.size_at.ensures step);
      faults = omega (arith, inv.faults, c.cut_claim.ensures.cause.never_falls);
      so_far = λ told.
          let at = subst (λ (n : ℕ). At (claim k) (λ a b. b ≡ take n a) now new) c.size_at.ensures (c.in_ok-cut_claim.ensures.cut told) in
          cut_onward ends old now (c.requires told) (inv.so_far told) k new at;
      done = λ told i before.
          let at = subst (λ (n : ℕ). At (claim k) (λ a b. b ≡ take n a) now new) c.size_at.ensures (c.in_ok-cut_claim.ensures.cut told) in
          elim (cases_lt i index) [
            | inl earlier ↦ cut_kept ends old now (c.requires told) (inv.so_far told) k (slice_index list i) new at (inv.done told i earlier)
            | inr late ↦
                let same : i ≡ index = omega (arith, before, late) in
                subst (λ (j : ℕ). new (claim (slice_index list j)) ≡ take (ends (slice_index list j)) (old (claim (slice_index list j)))) (sym same)
                (cut_here ends old now (c.requires told) (inv.so_far told) k (new (claim k)) at.here)
          ];
    }

pub returns-clause-cut : goal.returns-clause-cut
returns-clause-cut g c told =
    let laws = g.met.D.Disk g.world.𝓛 g.world.𝓜 g.world.𝓡 ((λ s x. x), (λ x. x), (λ x. x), λ x. x) in
    let ends = size_of c.args.self.now in
    let list = c.deref-number-items.result.now in
    let first = c.args.disk.now in
    let old = g.D.Disk.held first in
    let now = g.D.Disk.held c.loop-number.disk in
    let inv = c.loop-number.invariant in
    cut_whole ends old now (c.requires told) (inv.so_far told)
    (λ k some.
    elim (cases_lt k (2 ^ 64)) [
      | inl below ↦
          let found = (c.in_ok-files.ensures.listed told k below).1 some in
          let i = found.0 in
          let items = c.files.new.list.items in
          let same : list ≡ items = c.deref-number-items.ensures.value in
          let within : i < length list = omega (arith, found.1, ap length same) in
          let at : slice_index list i ≡ k = ap (λ (l : List ℕ). slice_index l i) same ∙ get_or_default items i 0 k found.1 ∙ found.2 in
          subst (λ (j : ℕ). now (claim j) ≡ take (ends j) (old (claim j))) at (inv.done told i (omega (arith, within, c.loop-number-test.false)))
      | inr past ↦
          let none = laws.images_end first (g.D.Disk.moment first) old (claim k) (laws.held_is_left first told) past in
          absurd (omega (arith, some, ap length none))
    ])
