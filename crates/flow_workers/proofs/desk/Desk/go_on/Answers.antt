use Rattle.std.proofs.Common.{◌≡◌, ap, subst, ◌∙◌}
use Rattle.std.specs.Prelude.{ℕ, None, Ok}
use Rattle.machine_model.specs.declared.flow.Flow.{Flow}
use Rattle.store_core.specs.Store.{kept_by}
use Rattle.engine_steps.specs.declared.checkout.Checkout.{Checkout}
use Rattle.flow_workers.specs.Jobs.{IsReadJob}
use Rattle.flow_workers.specs.Seen.{ended_by_checkout}
use Rattle.flow_workers.proofs.Twice.{goes_twice}
use Rattle.flow_workers.proofs.desk.Desk.go_on.Goals as goal

pub returns-in-Ok-Session-clause-goes : goal.returns-in-Ok-Session-clause-goes
returns-in-Ok-Session-clause-goes g c =
    let D = g.D.Disk in
    let I = g.I.Inbox in
    let O = g.O.Outbox in
    let C = g.C.Clock in
    goes_twice D.tells D.held D.moment D.images D.faults I.tells I.left I.faults O.tells O.standing O.puts O.faults C.time C.given c.args.self.now.seen c.check_out.new.self.seen c.hand_out.new.self.seen c.check_out.ensures.goes c.hand_out.ensures.goes

pub returns-in-Ok-Session-clause-job : goal.returns-in-Ok-Session-clause-job
returns-in-Ok-Session-clause-job g c job is files listed =
    let D = g.D.Disk in
    let I = g.I.Inbox in
    let O = g.O.Outbox in
    let C = g.C.Clock in
    let goes = c.check_out.ensures.goes in
    let none : c.check_out.new.self.seen.cause ≡ None = c.in-Ok-Session.ensures.cause ∙ ap (λ (n : Checkout). ended_by_checkout (Ok n)) c.in-Ok-Session.field-0-is in
    subst (λ (flow : Flow). IsReadJob flow (kept_by c.args.self.now.seen.engine.store).store I.tells files job) goes.same.flow
    (subst (λ (store : ℕ). IsReadJob c.check_out.new.self.seen.engine.flow store I.tells files job) goes.same.id (c.hand_out.ensures.job job is files (goes.bytes none files listed)))

pub returns-in-Ok-Rest-clause-goes : goal.returns-in-Ok-Rest-clause-goes
returns-in-Ok-Rest-clause-goes g c =
    let D = g.D.Disk in
    let I = g.I.Inbox in
    let O = g.O.Outbox in
    let C = g.C.Clock in
    goes_twice D.tells D.held D.moment D.images D.faults I.tells I.left I.faults O.tells O.standing O.puts O.faults C.time C.given c.args.self.now.seen c.check_out.new.self.seen c.rest.new.self.seen c.check_out.ensures.goes c.rest.ensures.goes
