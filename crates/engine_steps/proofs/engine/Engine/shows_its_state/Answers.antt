use Rattle.std.proofs.Common.{◌≡◌, sym, ap, subst}
use Rattle.flowfile_wal.specs.Calls.{InEach}
use Rattle.store_core.specs.Store.{StoreState}
use Rattle.run_law.specs.Run.{StandsFor}
use Rattle.run_law.specs.Work.{IsAtWork}
use Rattle.engine_steps.specs.Engine.{EngineState}
use Rattle.engine_steps.proofs.Choosing.{shown}
use Rattle.engine_steps.proofs.engine.Engine.shows_its_state.Goals as goal

pub returns : goal.returns
returns g c telling m stands =
    let D = g.D.Disk in
    let e : EngineState = c.args.self.now in
    let disk = c.args.disk.now in
    let is : c.self.inside.store ≡ e.store = ap (λ (t : EngineState). t.store) c.self.view_is in
    let work = subst (λ (t : StoreState). IsAtWork e.flow D.tells D.held D.moment D.images t disk) (sym is) c.requires.work in
    let each = subst (λ (t : StoreState). InEach (D.images disk (D.moment disk)) (StandsFor e.flow t.lot m)) (sym is) stands in
    shown c.what_is_kept_is_seen.ensures.queues c.what_is_kept_is_seen.ensures.sizes e c.self.inside.store (D.held disk) m is c.requires.work.flow_is c.requires.memory.queues
    (c.holds_its_state.ensures.held telling) c.state-stored.ensures.consistent (c.holds_its_state.ensures.tied telling e.flow work m each)
