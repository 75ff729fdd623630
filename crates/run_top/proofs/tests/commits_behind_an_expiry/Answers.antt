use Rattle.std.proofs.Common.{◌≡◌, List, subst, rules, sym}
use Rattle.std.specs.Prelude.{Ok}
use Rattle.flowfile_record.specs.NamedFile.{NamedFile}
use Rattle.content_repo.specs.Claims.{content_in}
use Rattle.store_core.specs.Store.{kept_by}
use Rattle.engine_session.specs.Done.{IsWorkOn, WorkIsDone}
use Rattle.engine_steps.specs.Checkout.{ChecksOut}
use Rattle.engine_steps.specs.Engine.{AreTakeable, EngineState}
use Rattle.engine_steps.specs.Flights.{names_to_come}
use Rattle.engine_steps.specs.declared.checkout.Checkout.{Checkout}
use Rattle.engine_steps.proofs.StandsStill.{work_is_done}
use Rattle.run_top.proofs.StillUsable.{done_in_run, usable_checked_out, works_before}
use Rattle.run_top.proofs.tests.commits_behind_an_expiry.Goals as goal

pub checkout-requires : goal.checkout-requires
checkout-requires g c = record { ready = λ works. c.requires.may.ready.memory }

pub read-requires-clause-usable : goal.read-requires-clause-usable
read-requires-clause-usable g c κs within =
    let e : EngineState = c.args.engine.now in
    usable_checked_out g.D.Disk.tells g.D.Disk.held g.D.Disk.moment g.D.Disk.images g.I.Inbox.tells (g.I.Inbox.left c.args.inbox.now) e c.checkout.new.self c.args.disk.now
    (record { usable = λ works. c.requires.may.ready; takeable = λ works telling. c.requires.may.left telling }) c.checkout.ensures.ready 1000 c.in-Ok-Session.session
    (subst (λ (n : Checkout). ChecksOut (Ok n) 1000 e c.checkout.new.self) c.in-Ok-Session.field-0-is c.in-Ok-Session.ensures.leaves)

-- what is to come stays as files expire
pub commit-requires-clause-usable : goal.commit-requires-clause-usable
commit-requires-clause-usable g c κs within =
    let f : EngineState = c.tend.new.self in
    let r : EngineState = c.read.new.self in
    record {
      usable = c.tend.ensures.usable;
      takeable = λ works telling.
          let same : names_to_come f ≡ names_to_come r = λ i. names_to_come (record r { listing = c.tend.ensures.alone.listing i; out = c.tend.ensures.alone.out i }) in
          subst (AreTakeable (g.I.Inbox.left c.read.new.inbox)) (sym same) (c.read.ensures.usable.takeable (works_before c.tend.result r f _ _ c.tend.ensures.refusal.reopen works) telling);
    }

-- the flow and the store's id stay as files expire
pub commit-requires-clause-done : goal.commit-requires-clause-done
commit-requires-clause-done g c κs within flight found receives =
    let e : EngineState = c.checkout.new.self in
    let r : EngineState = c.read.new.self in
    let job = c.in-Ok.job in
    let done = c.in_ok-done.done in
    let same : r ≡ e = c.in-Ok.ensures.engine.unchanged (λ disk. cc) in
    let own = c.in-Ok.ensures.job in
    let work = subst (λ (x : EngineState). IsWorkOn x.flow (kept_by x.store).store job done) same (search rules) in
    done_in_run r c.tend.new.self g.I.Inbox.tells (g.I.Inbox.left c.read.new.inbox) done c.tend.ensures.alone.same.flow c.tend.ensures.alone.same.id
    (subst (λ (x : EngineState). WorkIsDone x.flow (kept_by x.store).store g.I.Inbox.tells (g.I.Inbox.left c.read.new.inbox) done) (sym same)
    (subst (λ (left : List NamedFile). WorkIsDone e.flow (kept_by e.store).store g.I.Inbox.tells left done) (sym c.read.ensures.world.1)
    (work_is_done g.D.Disk.tells g.I.Inbox.tells g.O.Outbox.tells e (content_in (g.D.Disk.held c.args.disk.now)) (g.I.Inbox.left c.args.inbox.now) (g.O.Outbox.standing c.args.outbox.now) own.0 job done own.2 work)))
