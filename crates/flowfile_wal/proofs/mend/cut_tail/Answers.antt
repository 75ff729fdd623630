use Rattle.std.proofs.Common.{◌+◌, ◌<◌, length, arith, sym, subst}
use Rattle.disk_trait.specs.Files.{Files, named}
use Rattle.disk_trait.specs.declared.file_name.FileKind.TheVariants.{Log}
use Rattle.disk_trait.proofs.Moments.{wider}
use Rattle.flowfile_wal.specs.Steps.{IsLogAt}
use Rattle.flowfile_wal.proofs.Mending.{cut_short, cut_done, still_there}
use Rattle.flowfile_wal.proofs.mend.cut_tail.Goals as goal

pub returns-in_err-cut_synced-clause-images : goal.returns-in_err-cut_synced-clause-images
returns-in_err-cut_synced-clause-images g c =
    let laws = g.met.D.Disk g.world.𝓛 g.world.𝓜 g.world.𝓡 ((λ s x. x), (λ x. x), (λ x. x), λ x. x) in
    let old = c.args.disk.now in
    wider g.D.Disk.moment g.D.Disk.images old c.cut_synced.new.disk _ _ c.cut_synced.ensures.images
    (λ c' after.
    let told = laws.left_is_told old (g.D.Disk.moment old) after.0 after.1 in
    let synced = sym (c.requires.synced after.0 after.1) in
    let is = subst (λ (f : Files). IsLogAt c.args.number c.args.end (f (named Log c.args.number))) synced (c.requires.log told) in
    let some : c.args.end + 1 < length (after.0 (named Log c.args.number)) = subst (λ (f : Files). c.args.end + 1 < length (f (named Log c.args.number))) synced (omega (arith, c.requires.size told)) in
    (after.0, after.1, record { here = cut_short c.args.number c.args.end (after.0 (named Log c.args.number)) is (c' (named Log c.args.number)) some after.2.here; others = after.2.others }))

pub returns-in_ok-cut_synced-clause-images : goal.returns-in_ok-cut_synced-clause-images
returns-in_ok-cut_synced-clause-images g c =
    let laws = g.met.D.Disk g.world.𝓛 g.world.𝓜 g.world.𝓡 ((λ s x. x), (λ x. x), (λ x. x), λ x. x) in
    let old = c.args.disk.now in
    wider g.D.Disk.moment g.D.Disk.images old c.cut_synced.new.disk _ _ c.cut_synced.ensures.images
    (λ c' after.
    let told = laws.left_is_told old (g.D.Disk.moment old) after.0 after.1 in
    let synced = sym (c.requires.synced after.0 after.1) in
    let is = subst (λ (f : Files). IsLogAt c.args.number c.args.end (f (named Log c.args.number))) synced (c.requires.log told) in
    let some : c.args.end + 1 < length (after.0 (named Log c.args.number)) = subst (λ (f : Files). c.args.end + 1 < length (f (named Log c.args.number))) synced (omega (arith, c.requires.size told)) in
    (after.0, after.1, record { here = cut_short c.args.number c.args.end (after.0 (named Log c.args.number)) is (c' (named Log c.args.number)) some after.2.here; others = after.2.others }))

pub returns-in_ok-cut_synced-clause-log : goal.returns-in_ok-cut_synced-clause-log
returns-in_ok-cut_synced-clause-log g c told =
    let is = c.requires.log told in
    let bytes = g.D.Disk.held c.args.disk.now (named Log c.args.number) in
    let now = g.D.Disk.held c.cut_synced.new.disk (named Log c.args.number) in
    still_there c.args.number c.args.end bytes is now (cut_done c.args.number c.args.end bytes is now (omega (arith, c.requires.size told)) (c.in_ok-cut_synced.ensures.cut told).here)
