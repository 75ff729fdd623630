use Rattle.std.proofs.Common.{◌≡◌, ℕ, ap, subst, ◌∙◌}
use Rattle.disk_trait.specs.Files.{Files}
use Rattle.repository_cases.proofs.CaseLogs.{may_begin}
use Rattle.repository_cases.proofs.logs.begun_and_appended.Goals as goal

pub begin-requires-clause-ready : goal.begin-requires-clause-ready
begin-requires-clause-ready g c κs within c' left =
    let laws = g.met.D.Disk g.world.𝓛 g.world.𝓜 g.world.𝓡 ((λ s x. x), (λ x. x), (λ x. x), λ x. x) in
    let synced = c.sync.new.self in
    let loaded = c.load.new.disk in
    let stays = c.load.ensures.stays in
    let told = laws.left_is_told loaded (g.D.Disk.moment loaded) c' left in
    let was = subst (λ (k : ℕ). g.D.Disk.images synced k c') stays.time (stays.past (g.D.Disk.moment loaded) c' left) in
    let is : c' ≡ g.D.Disk.held c.args.disk.now = c.in-Ok.ensures.synced c' was ∙ c.in-Ok.ensures.held in
    may_begin 1 c' (λ f. ap (λ (files : Files). files f) is ∙ c.requires.empty told f)
