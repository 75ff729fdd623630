use Rattle.std.proofs.Common.{◌≤◌, length, subst, sym}
use Rattle.disk_trait.specs.Files.{Files, named}
use Rattle.disk_trait.specs.Images.{After}
use Rattle.disk_trait.specs.declared.file_name.FileKind.TheVariants.{Log}
use Rattle.store_core.specs.declared.discard.Spared.TheVariants.{UpTo}
use Rattle.store_core.specs.Discard.{spares, CutsKind, Discards}
use Rattle.disk_trait.proofs.Moments.{and_syncs}
use Rattle.store_core.proofs.Discarding.{shortens, since_step, unspared_above}
use Rattle.store_core.proofs.discard.shorten_logs.Goals as goal

pub returns-in_err-cut_kind-clause-images : goal.returns-in_err-cut_kind-clause-images
returns-in_err-cut_kind-clause-images g c =
    since_step g.D.Disk.moment g.D.Disk.images c.args.current c.args.disk.now c.cut_kind.new.disk (CutsKind Log (spares (UpTo c.args.current)) 1) c.cut_kind.ensures.images
    (λ d e left step. shortens c.args.current d e step)

pub returns-in_err-sync-clause-images : goal.returns-in_err-sync-clause-images
returns-in_err-sync-clause-images g c =
    and_syncs g.D.Disk.moment g.D.Disk.images c.args.disk.now c.cut_kind.new.disk c.sync.new.self (After (Discards c.args.current) (g.D.Disk.images c.args.disk.now (g.D.Disk.moment c.args.disk.now)))
    (since_step g.D.Disk.moment g.D.Disk.images c.args.current c.args.disk.now c.cut_kind.new.disk (CutsKind Log (spares (UpTo c.args.current)) 1) c.cut_kind.ensures.images
    (λ d e left step. shortens c.args.current d e step))
    c.sync.ensures.images

pub returns-clause-images : goal.returns-clause-images
returns-clause-images g c =
    and_syncs g.D.Disk.moment g.D.Disk.images c.args.disk.now c.cut_kind.new.disk c.sync.new.self (After (Discards c.args.current) (g.D.Disk.images c.args.disk.now (g.D.Disk.moment c.args.disk.now)))
    (since_step g.D.Disk.moment g.D.Disk.images c.args.current c.args.disk.now c.cut_kind.new.disk (CutsKind Log (spares (UpTo c.args.current)) 1) c.cut_kind.ensures.images
    (λ d e left step. shortens c.args.current d e step))
    c.sync.ensures.images

pub returns-clause-held : goal.returns-clause-held
returns-clause-held g c told =
    subst (λ (files : Files). Discards c.args.current (g.D.Disk.held c.args.disk.now) files) (sym c.in_ok-sync.ensures.held)
    (shortens c.args.current (g.D.Disk.held c.args.disk.now) (g.D.Disk.held c.cut_kind.new.disk) (c.in_ok-cut_kind.ensures.cut told).step)

pub returns-clause-short : goal.returns-clause-short
returns-clause-short g c told n above =
    subst (λ (files : Files). length (files (named Log n)) ≤ 1) (sym c.in_ok-sync.ensures.held)
    ((c.in_ok-cut_kind.ensures.cut told).short n (unspared_above c.args.current n above))
