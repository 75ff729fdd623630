use Rattle.std.proofs.Common.{◌≡◌, ◌∷◌, List, ℕ, subst, sym}
use Rattle.disk_trait.specs.Files.{At}
use Rattle.record_codec.specs.declared.log.TheConstants.{CLOSED_GATE}
use Rattle.checkpoint_store.specs.Begun.{IsBegun, log_file}
use Rattle.checkpoint_store.proofs.Beginnings.{begun_or_not, is_begun}
use Rattle.checkpoint_store.proofs.beginning.begin.Goals as goal

pub returns-in_err-write_synced-clause-images : goal.returns-in_err-write_synced-clause-images
returns-in_err-write_synced-clause-images g c =
    let old = c.args.disk.now in
    let mid = c.stage.new.disk in
    let file = log_file c.args.number in
    let laws = g.met.D.Disk g.world.𝓛 g.world.𝓜 g.world.𝓡 ((λ s x. x), (λ x. x), (λ x. x), λ x. x) in
    begun_or_not g.D.Disk.moment g.D.Disk.images old mid c.write_synced.new.disk (g.D.Disk.held old) (g.D.Disk.held mid) c.args.version c.args.number
    (λ d left. let told = laws.left_is_told mid (g.D.Disk.moment mid) d left in
    (laws.held_is_left old told, subst (λ (l : List ℕ). At file (λ o w. w ≡ CLOSED_GATE ∷ l) (g.D.Disk.held old) (g.D.Disk.held mid)) c.frame_of.ensures (c.in_ok-stage.ensures.staged told)))
    c.in_ok-stage.ensures.synced c.stage.ensures.images c.write_synced.ensures.images

pub returns-clause-images : goal.returns-clause-images
returns-clause-images g c =
    let old = c.args.disk.now in
    let mid = c.stage.new.disk in
    let file = log_file c.args.number in
    let laws = g.met.D.Disk g.world.𝓛 g.world.𝓜 g.world.𝓡 ((λ s x. x), (λ x. x), (λ x. x), λ x. x) in
    begun_or_not g.D.Disk.moment g.D.Disk.images old mid c.write_synced.new.disk (g.D.Disk.held old) (g.D.Disk.held mid) c.args.version c.args.number
    (λ d left. let told = laws.left_is_told mid (g.D.Disk.moment mid) d left in
    (laws.held_is_left old told, subst (λ (l : List ℕ). At file (λ o w. w ≡ CLOSED_GATE ∷ l) (g.D.Disk.held old) (g.D.Disk.held mid)) c.frame_of.ensures (c.in_ok-stage.ensures.staged told)))
    c.in_ok-stage.ensures.synced c.stage.ensures.images c.write_synced.ensures.images

pub returns-clause-begun : goal.returns-clause-begun
returns-clause-begun g c = λ c' left.
    let old = c.args.disk.now in
    let mid = c.stage.new.disk in
    let new = c.write_synced.new.disk in
    let file = log_file c.args.number in
    let laws = g.met.D.Disk g.world.𝓛 g.world.𝓜 g.world.𝓡 ((λ s x. x), (λ x. x), (λ x. x), λ x. x) in
    let told = laws.left_is_told new (g.D.Disk.moment new) c' left in
    let staged = subst (λ (l : List ℕ). At file (λ o w. w ≡ CLOSED_GATE ∷ l) (g.D.Disk.held old) (g.D.Disk.held mid)) c.frame_of.ensures (c.in_ok-stage.ensures.staged told) in
    subst (IsBegun c.args.version c.args.number) (sym (c.in_ok-write_synced.ensures.synced c' left))
    (is_begun c.args.version c.args.number (g.D.Disk.held old) (g.D.Disk.held mid) (g.D.Disk.held new) (c.requires.ready (g.D.Disk.held old) (laws.held_is_left old told)) staged (c.in_ok-write_synced.ensures.written told))
