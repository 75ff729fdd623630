use Rattle.std.proofs.Common.{◌+◌, ◌≤◌, length, sym, subst}
use Rattle.disk_trait.specs.Files.{Files, named}
use Rattle.disk_trait.specs.declared.file_name.FileKind.TheVariants.{Log}
use Rattle.disk_trait.proofs.Moments.{wider}
use Rattle.flowfile_wal.specs.Steps.{IsLogAt}
use Rattle.flowfile_wal.proofs.Mending.{gate_torn, gate_within}
use Rattle.flowfile_wal.proofs.mend.close_gate.Goals as goal

pub write_synced-requires-after_bounds : goal.write_synced-requires-after_bounds
write_synced-requires-after_bounds g c lfts out told = gate_within c.args.number c.args.end (g.D.Disk.held c.args.disk.now (named Log c.args.number)) (c.requires.log told)

pub returns-in_err-write_synced-clause-images : goal.returns-in_err-write_synced-clause-images
returns-in_err-write_synced-clause-images g c =
    let laws = g.met.D.Disk g.world.𝓛 g.world.𝓜 g.world.𝓡 ((λ s x. x), (λ x. x), (λ x. x), λ x. x) in
    let old = c.args.disk.now in
    wider g.D.Disk.moment g.D.Disk.images old c.write_synced.new.disk _ _ c.write_synced.ensures.images
    (λ c' after.
    let told = laws.left_is_told old (g.D.Disk.moment old) after.0 after.1 in
    let synced = sym (c.requires.synced after.0 after.1) in
    let is = subst (λ (f : Files). IsLogAt c.args.number c.args.end (f (named Log c.args.number))) synced (c.requires.log told) in
    let short : length (after.0 (named Log c.args.number)) ≤ c.args.end + 1 = subst (λ (f : Files). length (f (named Log c.args.number)) ≤ c.args.end + 1) synced (c.requires.short told) in
    (after.0, after.1, record { here = gate_torn c.args.number c.args.end (after.0 (named Log c.args.number)) is (c' (named Log c.args.number)) short after.2.here; others = after.2.others }))

pub returns-in_ok-write_synced-clause-images : goal.returns-in_ok-write_synced-clause-images
returns-in_ok-write_synced-clause-images g c =
    let laws = g.met.D.Disk g.world.𝓛 g.world.𝓜 g.world.𝓡 ((λ s x. x), (λ x. x), (λ x. x), λ x. x) in
    let old = c.args.disk.now in
    wider g.D.Disk.moment g.D.Disk.images old c.write_synced.new.disk _ _ c.write_synced.ensures.images
    (λ c' after.
    let told = laws.left_is_told old (g.D.Disk.moment old) after.0 after.1 in
    let synced = sym (c.requires.synced after.0 after.1) in
    let is = subst (λ (f : Files). IsLogAt c.args.number c.args.end (f (named Log c.args.number))) synced (c.requires.log told) in
    let short : length (after.0 (named Log c.args.number)) ≤ c.args.end + 1 = subst (λ (f : Files). length (f (named Log c.args.number)) ≤ c.args.end + 1) synced (c.requires.short told) in
    (after.0, after.1, record { here = gate_torn c.args.number c.args.end (after.0 (named Log c.args.number)) is (c' (named Log c.args.number)) short after.2.here; others = after.2.others }))
