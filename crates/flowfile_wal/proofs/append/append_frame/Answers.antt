use Rattle.std.proofs.Common.{length, subst, sym}
use Rattle.disk_trait.specs.Files.{Files, At, named}
use Rattle.disk_trait.specs.declared.file_name.FileKind.TheVariants.{Log}
use Rattle.flowfile_wal.specs.Steps.{MoreEntries}
use Rattle.flowfile_wal.proofs.Stops.{staging, with_or_without, added}
use Rattle.flowfile_wal.proofs.append.append_frame.Goals as goal

pub returns-in_err-write_synced-clause-images : goal.returns-in_err-write_synced-clause-images
returns-in_err-write_synced-clause-images g c version entries rests is_frame =
    staging g.D.Disk.moment g.D.Disk.images c.args.disk.now (g.D.Disk.held c.args.disk.now) c.args.number version c.args.end rests c.write_synced.new.disk _ (length c.args.frame.now) entries
    c.write_synced.ensures.images

pub returns-in_err-write_synced-2-clause-images : goal.returns-in_err-write_synced-2-clause-images
returns-in_err-write_synced-2-clause-images g c version entries rests is_frame =
    let old = c.args.disk.now in
    let mid = c.write_synced.new.disk in
    let laws = g.met.D.Disk g.world.𝓛 g.world.𝓜 g.world.𝓡 ((λ s x. x), (λ x. x), (λ x. x), λ x. x) in
    with_or_without g.D.Disk.moment g.D.Disk.images old (g.D.Disk.held old) c.args.number version c.args.end rests entries c.args.frame.now is_frame mid c.write_synced-2.new.disk (g.D.Disk.held mid)
    (λ d left. let told = laws.left_is_told mid (g.D.Disk.moment mid) d left in (laws.held_is_left old told, c.in_ok-write_synced.ensures.written told))
    c.in_ok-write_synced.ensures.synced c.write_synced.ensures.images c.write_synced-2.ensures.images

pub returns-clause-images : goal.returns-clause-images
returns-clause-images g c version entries rests is_frame =
    let old = c.args.disk.now in
    let mid = c.write_synced.new.disk in
    let laws = g.met.D.Disk g.world.𝓛 g.world.𝓜 g.world.𝓡 ((λ s x. x), (λ x. x), (λ x. x), λ x. x) in
    with_or_without g.D.Disk.moment g.D.Disk.images old (g.D.Disk.held old) c.args.number version c.args.end rests entries c.args.frame.now is_frame mid c.write_synced-2.new.disk (g.D.Disk.held mid)
    (λ d left. let told = laws.left_is_told mid (g.D.Disk.moment mid) d left in (laws.held_is_left old told, c.in_ok-write_synced.ensures.written told))
    c.in_ok-write_synced.ensures.synced c.write_synced.ensures.images c.write_synced-2.ensures.images

pub returns-clause-added : goal.returns-clause-added
returns-clause-added g c version entries rests is_frame c' left =
    let old = c.args.disk.now in
    let mid = c.write_synced.new.disk in
    let new = c.write_synced-2.new.disk in
    let laws = g.met.D.Disk g.world.𝓛 g.world.𝓜 g.world.𝓡 ((λ s x. x), (λ x. x), (λ x. x), λ x. x) in
    let told = laws.left_is_told new (g.D.Disk.moment new) c' left in
    let last = added g.D.Disk.moment g.D.Disk.images old (g.D.Disk.held old) c.args.number version c.args.end rests entries c.args.frame.now is_frame mid new (g.D.Disk.held mid)
    (laws.held_is_left old told) (c.in_ok-write_synced.ensures.written told) (g.D.Disk.held new) (c.in_ok-write_synced-2.ensures.written told) in
    subst (λ (f : Files). At (named Log c.args.number) (MoreEntries c.args.number entries (length c.args.frame.now)) (g.D.Disk.held old) f) (sym (c.in_ok-write_synced-2.ensures.synced c' left)) last
