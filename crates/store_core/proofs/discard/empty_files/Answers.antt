use Rattle.std.proofs.Common.{◌≡◌, ℕ, ◌≤◌, length, subst, sym}
use Rattle.std.specs.Prelude.{Option, OnOk, Result, Ok, Err}
use Rattle.disk_trait.specs.Files.{Files, named}
use Rattle.disk_trait.specs.Images.{After, Since}
use Rattle.disk_trait.specs.declared.file_name.FileKind.TheVariants.{Log}
use Rattle.store_core.specs.declared.discard.Spared.TheVariants.{Only}
use Rattle.store_core.specs.Discard.{spares, CutsKind, IsAbove, Discards}
use Rattle.store_core.proofs.Discarding.{empties_logs, no_others, since_step, after_snapshots, after_batches}
use Rattle.store_core.proofs.discard.empty_files.Goals as goal

-- the names of the steps
module _ {D : Type 0} (moment : D → ℕ) (images : D → ℕ → Files → Type 0) (current : Option ℕ) where
  -- the logs go first
  logs_go : (old new : D) (held : Files) → ((d : Files) → images old (moment old) d → d ≡ held) → ((d : Files) → images old (moment old) d → (n : ℕ) → IsAbove current n → length (held (named Log n)) ≤ 1)
      → Since moment images old new (After (CutsKind Log (spares (Only current)) 0) (images old (moment old)))
      → Since moment images old new (After (Discards current) (images old (moment old)))
  logs_go old new held only short since =
      since_step moment images current old new (CutsKind Log (spares (Only current)) 0) since
      (λ d c left step. empties_logs current d c (λ n above. subst (λ (files : Files). length (files (named Log n)) ≤ 1) (sym (only d left)) (short d left n above)) step)

pub returns-in_err-cut_kind-clause-images : goal.returns-in_err-cut_kind-clause-images
returns-in_err-cut_kind-clause-images g c =
    let laws = g.met.D.Disk g.world.𝓛 g.world.𝓜 g.world.𝓡 ((λ s x. x), (λ x. x), (λ x. x), λ x. x) in
    let old = c.args.disk.now in
    logs_go g.D.Disk.moment g.D.Disk.images c.args.current old c.cut_kind.new.disk (g.D.Disk.held old) c.requires.synced
    (λ d left. c.requires.short (laws.left_is_told old (g.D.Disk.moment old) d left)) c.cut_kind.ensures.images

pub returns-in_err-cut_kind-2-clause-images : goal.returns-in_err-cut_kind-2-clause-images
returns-in_err-cut_kind-2-clause-images g c =
    let laws = g.met.D.Disk g.world.𝓛 g.world.𝓜 g.world.𝓡 ((λ s x. x), (λ x. x), (λ x. x), λ x. x) in
    let old = c.args.disk.now in
    after_snapshots g.D.Disk.moment g.D.Disk.images c.args.current old c.cut_kind.new.disk c.cut_kind-2.new.disk
    (logs_go g.D.Disk.moment g.D.Disk.images c.args.current old c.cut_kind.new.disk (g.D.Disk.held old) c.requires.synced
    (λ d left. c.requires.short (laws.left_is_told old (g.D.Disk.moment old) d left)) c.cut_kind.ensures.images)
    c.cut_kind-2.ensures.images

pub returns-clause-images : goal.returns-clause-images
returns-clause-images g c =
    let laws = g.met.D.Disk g.world.𝓛 g.world.𝓜 g.world.𝓡 ((λ s x. x), (λ x. x), (λ x. x), λ x. x) in
    let old = c.args.disk.now in
    after_batches g.D.Disk.moment g.D.Disk.images c.args.current old c.cut_kind-2.new.disk c.cut_kind-3.new.disk
    (after_snapshots g.D.Disk.moment g.D.Disk.images c.args.current old c.cut_kind.new.disk c.cut_kind-2.new.disk
    (logs_go g.D.Disk.moment g.D.Disk.images c.args.current old c.cut_kind.new.disk (g.D.Disk.held old) c.requires.synced
    (λ d left. c.requires.short (laws.left_is_told old (g.D.Disk.moment old) d left)) c.cut_kind.ensures.images)
    c.cut_kind-2.ensures.images)
    c.cut_kind-3.ensures.images

also : {A E P Q : Type 0} (r : Result A E) → (P → Q) → OnOk r P → OnOk r Q
also (Ok x) to p = to p
also (Err e) to p = tt

pub returns-clause-others : goal.returns-clause-others
returns-clause-others g c =
    let held = g.D.Disk.held in
    also c.cut_kind-3.result
    (λ last told.
    no_others c.args.current (held c.args.disk.now) (held c.cut_kind.new.disk) (held c.cut_kind-2.new.disk) (held c.cut_kind-3.new.disk)
    (c.in_ok-cut_kind.ensures.cut told) (c.in_ok-cut_kind-2.ensures.cut told) (last told))
    c.cut_kind-3.ensures.cut
