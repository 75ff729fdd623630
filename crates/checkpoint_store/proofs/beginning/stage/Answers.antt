use Rattle.std.proofs.Common.{length}
use Rattle.checkpoint_store.proofs.Beginnings.{staged_or_not, staged_behind}
use Rattle.checkpoint_store.proofs.beginning.stage.Goals as goal

pub returns-in_err-write_synced-2-clause-images : goal.returns-in_err-write_synced-2-clause-images
returns-in_err-write_synced-2-clause-images g c =
    let old = c.args.disk.now in
    let mid = c.write_synced.new.disk in
    let laws = g.met.D.Disk g.world.𝓛 g.world.𝓜 g.world.𝓡 ((λ s x. x), (λ x. x), (λ x. x), λ x. x) in
    staged_or_not g.D.Disk.moment g.D.Disk.images old mid c.write_synced-2.new.disk (g.D.Disk.held old) (g.D.Disk.held mid) c.args.file (length c.args.frame.now) c.requires.empty
    (λ d left. let told = laws.left_is_told mid (g.D.Disk.moment mid) d left in (laws.held_is_left old told, c.in_ok-write_synced.ensures.written told))
    c.in_ok-write_synced.ensures.synced c.write_synced.ensures.images c.write_synced-2.ensures.images

pub returns-clause-images : goal.returns-clause-images
returns-clause-images g c =
    let old = c.args.disk.now in
    let mid = c.write_synced.new.disk in
    let laws = g.met.D.Disk g.world.𝓛 g.world.𝓜 g.world.𝓡 ((λ s x. x), (λ x. x), (λ x. x), λ x. x) in
    staged_or_not g.D.Disk.moment g.D.Disk.images old mid c.write_synced-2.new.disk (g.D.Disk.held old) (g.D.Disk.held mid) c.args.file (length c.args.frame.now) c.requires.empty
    (λ d left. let told = laws.left_is_told mid (g.D.Disk.moment mid) d left in (laws.held_is_left old told, c.in_ok-write_synced.ensures.written told))
    c.in_ok-write_synced.ensures.synced c.write_synced.ensures.images c.write_synced-2.ensures.images

pub returns-clause-staged : goal.returns-clause-staged
returns-clause-staged g c told =
    let old = c.args.disk.now in
    let mid = c.write_synced.new.disk in
    let laws = g.met.D.Disk g.world.𝓛 g.world.𝓜 g.world.𝓡 ((λ s x. x), (λ x. x), (λ x. x), λ x. x) in
    staged_behind c.args.file c.args.frame.now (g.D.Disk.held old) (g.D.Disk.held mid) (g.D.Disk.held c.write_synced-2.new.disk)
    (c.requires.empty (g.D.Disk.held old) (laws.held_is_left old told)) (c.in_ok-write_synced.ensures.written told) (c.in_ok-write_synced-2.ensures.written told)
