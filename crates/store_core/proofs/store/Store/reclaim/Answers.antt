use Rattle.std.proofs.Common.{sym, subst}
use Rattle.content_repo.specs.Claims.{AreEmptied}
use Rattle.content_repo.specs.Slots.{IsReclaimed}
use Rattle.store_core.specs.Calls.{KeepsMeaning}
use Rattle.store_core.specs.Store.{StoreState, store_in, IsKeptOn}
use Rattle.store_core.proofs.Closing.{states_reclaimed}
use Rattle.store_core.proofs.Reclaiming.{since_reclaimed, kept_reclaimed, sound_reclaimed}
use Rattle.store_core.proofs.store.Store.reclaim.Goals as goal

pub invariant_of-self : goal.invariant_of-self
invariant_of-self g c =
    let i = c.self.inside in
    let s = store_in i.state i.log i.entries i.contents i.opened.items i.events i.lot i.has_failed in
    sound_reclaimed s c.reclaim.new.self c.in-Ok.reclaimed c.self.invariant c.if-self.false c.in-Ok.ensures.reclaimed

pub returns-in_default-clause-meaning : goal.returns-in_default-clause-meaning
returns-in_default-clause-meaning g c works =
    let i = c.self.inside in
    let s = store_in i.state i.log i.entries i.contents i.opened.items i.events i.lot i.has_failed in
    let moment = g.D.Disk.moment in
    let images = g.D.Disk.images in
    let old = c.args.disk.now in
    let new = c.reclaim.new.disk in
    let kept = subst (λ (t : StoreState). IsKeptOn g.D.Disk.tells g.D.Disk.held moment images t old) (sym c.self.view_is) c.requires in
    subst (λ (t : StoreState). KeepsMeaning moment images t old new) c.self.view_is
    (record {
      holds = since_reclaimed moment images s old new (c.self.invariant.works c.if-self.false) (kept.holds c.if-self.false) (kept.log c.if-self.false) c.reclaim.ensures.images;
      states = λ state. states_reclaimed g.D.Disk.tells g.D.Disk.held moment images s old new (c.self.invariant.works c.if-self.false) c.if-self.false kept c.reclaim.ensures.images state;
    })

pub returns-clause-meaning : goal.returns-clause-meaning
returns-clause-meaning g c works =
    let i = c.self.inside in
    let s = store_in i.state i.log i.entries i.contents i.opened.items i.events i.lot i.has_failed in
    let moment = g.D.Disk.moment in
    let images = g.D.Disk.images in
    let old = c.args.disk.now in
    let new = c.reclaim.new.disk in
    let kept = subst (λ (t : StoreState). IsKeptOn g.D.Disk.tells g.D.Disk.held moment images t old) (sym c.self.view_is) c.requires in
    subst (λ (t : StoreState). KeepsMeaning moment images t old new) c.self.view_is
    (record {
      holds = since_reclaimed moment images s old new (c.self.invariant.works c.if-self.false) (kept.holds c.if-self.false) (kept.log c.if-self.false) c.reclaim.ensures.images;
      states = λ state. states_reclaimed g.D.Disk.tells g.D.Disk.held moment images s old new (c.self.invariant.works c.if-self.false) c.if-self.false kept c.reclaim.ensures.images state;
    })

pub returns-clause-kept : goal.returns-clause-kept
returns-clause-kept g c =
    let i = c.self.inside in
    let s = store_in i.state i.log i.entries i.contents i.opened.items i.events i.lot i.has_failed in
    let moment = g.D.Disk.moment in
    let images = g.D.Disk.images in
    let kept = subst (λ (t : StoreState). IsKeptOn g.D.Disk.tells g.D.Disk.held moment images t c.args.disk.now) (sym c.self.view_is) c.requires in
    kept_reclaimed moment images s c.args.disk.now c.reclaim.new.disk g.D.Disk.tells g.D.Disk.held c.reclaim.new.self
    (c.self.invariant.works c.if-self.false) c.if-self.false kept c.reclaim.ensures.images c.reclaim.ensures.shortened (λ told. (c.in-Ok.ensures.emptied told).sizes)

pub returns-clause-reclaimed : goal.returns-clause-reclaimed
returns-clause-reclaimed g c =
    subst (λ (t : StoreState). IsReclaimed t.slots c.reclaim.new.self c.in-Ok.reclaimed) c.self.view_is c.in-Ok.ensures.reclaimed

pub returns-clause-emptied : goal.returns-clause-emptied
returns-clause-emptied g c told =
    subst (λ (t : StoreState). AreEmptied t.slots c.reclaim.new.self (g.D.Disk.held c.args.disk.now) (g.D.Disk.held c.reclaim.new.disk)) c.self.view_is
    (c.in-Ok.ensures.emptied told)
