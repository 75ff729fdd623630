use Rattle.std.proofs.Common.{◌≡◌, false, List, ap, rules, subst, sym, ◌∙◌}
use Rattle.store_core.specs.Store.{StoreState, kept_by}
use Rattle.engine_steps.specs.Engine.{EngineState}
use Rattle.engine_steps.proofs.Short.{still_short}
use Rattle.engine_steps.proofs.Tidied.{shown_by_close, stand_still, tidied, works_inside}
use Rattle.engine_steps.specs.Flights.{HaveNames}
use Rattle.engine_steps.specs.declared.flight.InFlight.{InFlight}
use Rattle.engine_steps.proofs.Flights.{holds_names}
use Rattle.engine_steps.proofs.HandedBack.{names_closed}
use Rattle.engine_steps.proofs.engine.Engine.close.Goals as goal

pub holds_its_state-requires : goal.holds_its_state-requires
holds_its_state-requires g c =
    let D = g.D.Disk in
    let works : c.args.self.failed ≡ false = sym (ap (λ (x : EngineState). x.failed) c.self.view_is) ∙ c.if-has_failed.false in
    (search rules, (c.args.self.flow, works_inside c.args.self.flow D.tells D.held D.moment D.images c.self.inside.store c.args.self.store (ap (λ (x : EngineState). x.store) c.self.view_is) c.args.disk.now c.args.disk.now (c.requires.ready works).work))

pub returns-in_default-clause-states : goal.returns-in_default-clause-states
returns-in_default-clause-states g c works =
    let D = g.D.Disk in
    stand_still c.args.self.flow D.tells D.held D.moment D.images c.self.inside.store c.args.self.store (ap (λ (x : EngineState). x.store) c.self.view_is) c.args.disk.now c.close.new.disk (c.requires.ready works).work c.close.ensures.meaning

pub returns-in_default-clause-short : goal.returns-in_default-clause-short
returns-in_default-clause-short g c works =
    still_short g.D.Disk.moment g.D.Disk.images _ c.args.disk.now c.close.new.disk c.close.ensures.alone

pub returns-clause-states : goal.returns-clause-states
returns-clause-states g c works =
    let D = g.D.Disk in
    stand_still c.args.self.flow D.tells D.held D.moment D.images c.self.inside.store c.args.self.store (ap (λ (x : EngineState). x.store) c.self.view_is) c.args.disk.now c.close.new.disk (c.requires.ready works).work c.close.ensures.meaning

pub returns-clause-closed : goal.returns-clause-closed
returns-clause-closed g c =
    let D = g.D.Disk in
    let laws = g.met.D.Disk g.world.𝓛 g.world.𝓜 g.world.𝓡 ((λ s x. x), (λ x. x), (λ x. x), λ x. x) in
    let works : c.args.self.failed ≡ false = sym (ap (λ (x : EngineState). x.failed) c.self.view_is) ∙ c.if-has_failed.false in
    record {
      journal = search rules;
      state = c.into_state.ensures ∙ ap (λ (t : StoreState). kept_by t) c.close.ensures.rest ∙ ap (λ (x : EngineState). kept_by x.store) c.self.view_is;
      left = names_closed _ c.args.self c.deref.result.now c.give_names_back.new.listing c.count_left.result c.self.view_is c.deref.ensures.value c.give_names_back.ensures c.count_left.ensures;
      events = c.event_counts-events.ensures ∙ ap (λ (x : EngineState). x.store.events.counts) c.self.view_is;
      synced = search rules;
      tidied = λ telling.
          tidied c.args.self.flow D.tells D.held D.moment D.images c.self.inside.store c.args.self.store (ap (λ (x : EngineState). x.store) c.self.view_is) c.args.disk.now c.close.new.disk (c.requires.ready works).work c.close.result c.close.new.self
          c.in-Ok.field-0 c.in-Ok.is c.close.ensures.refusal.failed (ap (λ (t : StoreState). kept_by t) c.close.ensures.rest) (ap (λ (t : StoreState). t.lot) c.close.ensures.rest) c.close.ensures.kept (laws.held_is_left c.close.new.disk telling) (c.in-Ok.ensures.tidy telling);
    }

pub returns-clause-shows : goal.returns-clause-shows
returns-clause-shows g c telling m stands =
    let D = g.D.Disk in
    let works : c.args.self.failed ≡ false = sym (ap (λ (x : EngineState). x.failed) c.self.view_is) ∙ c.if-has_failed.false in
    shown_by_close c.args.self.flow D.tells D.held D.moment D.images c.self.inside.store c.args.self.store (ap (λ (x : EngineState). x.store) c.self.view_is) c.args.disk.now c.args.disk.now (c.requires.ready works).work m _ (c.into_state.ensures ∙ ap (λ (t : StoreState). kept_by t) c.close.ensures.rest) c.event_counts-events.ensures
    telling stands c.holds_its_state.ensures.tied c.holds_its_state.ensures.counted c.holds_its_state.ensures.read c.holds_its_state.ensures.kept.1

pub returns-clause-short : goal.returns-clause-short
returns-clause-short g c works =
    still_short g.D.Disk.moment g.D.Disk.images _ c.args.disk.now c.close.new.disk c.close.ensures.alone

pub give_names_back-requires : goal.give_names_back-requires
give_names_back-requires g c =
    let e : EngineState = c.args.self in
    let works : e.failed ≡ false = sym (ap (λ (x : EngineState). x.failed) c.self.view_is) ∙ c.if-has_failed.false in
    let have : HaveNames e.listing e.out = holds_names e.flow (kept_by e.store) e.listing e.next_session e.out (c.requires.ready works).memory.flights in
    subst (λ (fs : List InFlight). HaveNames c.self.inside.listing fs) (sym c.deref.ensures.value)
    (subst (λ (x : EngineState). HaveNames x.listing x.out) (sym c.self.view_is) have)
