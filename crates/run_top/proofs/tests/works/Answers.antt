use Rattle.std.proofs.Common.{◌≡◌, subst, rules, sym}
use Rattle.std.specs.Prelude.{Ok}
use Rattle.content_repo.specs.Claims.{content_in}
use Rattle.store_core.specs.Store.{kept_by}
use Rattle.engine_session.specs.Done.{IsWorkOn, WorkIsDone}
use Rattle.engine_steps.specs.Checkout.{ChecksOut}
use Rattle.engine_steps.specs.Engine.{EngineState}
use Rattle.engine_steps.specs.declared.checkout.Checkout.{Checkout}
use Rattle.engine_steps.proofs.StandsStill.{work_is_done}
use Rattle.run_top.proofs.StillUsable.{done_without_file, same_at_checkout, usable_checked_out}
use Rattle.run_top.proofs.tests.works.Goals as goal

pub checkout-requires : goal.checkout-requires
checkout-requires g c = record { ready = λ works. (c.requires.usable.usable works).memory }

pub read-requires-clause-usable : goal.read-requires-clause-usable
read-requires-clause-usable g c κs within =
    let e : EngineState = c.args.engine.now in
    usable_checked_out g.D.Disk.tells g.D.Disk.held g.D.Disk.moment g.D.Disk.images g.I.Inbox.tells (g.I.Inbox.left c.args.inbox.now) e c.checkout.new.self c.args.disk.now c.requires.usable c.checkout.ensures.ready c.args.moment
    c.in-Ok-Session.session (subst (λ (n : Checkout). ChecksOut (Ok n) c.args.moment e c.checkout.new.self) c.in-Ok-Session.field-0-is c.in-Ok-Session.ensures.leaves)

pub returns-clause-same : goal.returns-clause-same
returns-clause-same g c =
    let e : EngineState = c.args.engine.now in
    let f : EngineState = c.checkout.new.self in
    let same : c.read.new.self ≡ f = c.in-Ok.ensures.engine.unchanged (λ disk. cc) in
    subst (λ (x : EngineState). (x.flow ≡ e.flow) × ((kept_by x.store).store ≡ (kept_by e.store).store)) (sym same)
    (same_at_checkout c.args.moment c.in-Ok-Session.session e f (subst (λ (n : Checkout). ChecksOut (Ok n) c.args.moment e f) c.in-Ok-Session.field-0-is c.in-Ok-Session.ensures.leaves))

pub returns-clause-done : goal.returns-clause-done
returns-clause-done g c left =
    let f : EngineState = c.checkout.new.self in
    let job = c.in-Ok.job in
    let done = c.in_ok-done.done in
    let same : c.read.new.self ≡ f = c.in-Ok.ensures.engine.unchanged (λ disk. cc) in
    let own = c.in-Ok.ensures.job in
    let work = subst (λ (x : EngineState). IsWorkOn x.flow (kept_by x.store).store job done) same (search rules) in
    subst (λ (x : EngineState). WorkIsDone x.flow (kept_by x.store).store g.I.Inbox.tells left done) (sym same)
    (done_without_file f.flow (kept_by f.store).store g.I.Inbox.tells (g.I.Inbox.left c.args.inbox.now) left done
    (work_is_done g.D.Disk.tells g.I.Inbox.tells g.O.Outbox.tells f (content_in (g.D.Disk.held c.args.disk.now)) (g.I.Inbox.left c.args.inbox.now) (g.O.Outbox.standing c.args.outbox.now) own.0 job done own.2 work) (search rules))
