use Rattle.std.proofs.Common.{◌≡◌, false, ap, sym, ◌∙◌}
use Rattle.store_core.specs.Store.{StoreState, live_in}
use Rattle.store_core.proofs.Sound.{one_sound, damage_not}
use Rattle.store_core.proofs.store.Store.read.Goals as goal

pub returns-in-Err-Damaged-clause-undamaged : goal.returns-in-Err-Damaged-clause-undamaged
returns-in-Err-Damaged-clause-undamaged g c damage is told =
    let laws = g.met.D.Disk g.world.𝓛 g.world.𝓜 g.world.𝓡 ((λ s x. x), (λ x. x), (λ x. x), λ x. x) in
    let disk = c.args.disk.now in
    let held = g.D.Disk.held disk in
    let at = c.args.at.now in
    let works : c.args.self.now.failed ≡ false = ap (λ (s : StoreState). s.failed) (sym c.self.view_is) ∙ c.if-self.false in
    let holds = c.requires.kept.holds works held (laws.held_is_left disk told) in
    absurd (damage_not held at c.in-Err-Damaged.damage
    (one_sound held (live_in c.args.self.now) at holds.contents c.requires.live)
    (c.in-Err-Damaged.ensures.refusal.damaged c.in-Err-Damaged.damage c.in-Err-Damaged.field-0-is told))
