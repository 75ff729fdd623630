use Rattle.std.proofs.Common.{◌≡◌, ap, sym, subst, ◌∙◌}
use Rattle.std.specs.Prelude.{ℕ, None}
use Rattle.machine_model.specs.declared.flow.Flow.{Flow}
use Rattle.store_core.specs.Store.{kept_by}
use Rattle.flow_workers.specs.Jobs.{IsReadJob}
use Rattle.flow_workers.specs.Seen.{AtDesk, stopped_by}
use Rattle.flow_workers.proofs.Noted.{none_there}
use Rattle.flow_workers.proofs.Twice.{goes_twice}
use Rattle.flow_workers.proofs.desk.Desk.turn.Goals as goal

pub returns-in-Ok-Nothing-clause-goes : goal.returns-in-Ok-Nothing-clause-goes
returns-in-Ok-Nothing-clause-goes g c =
    let D = g.D.Disk in
    let I = g.I.Inbox in
    let O = g.O.Outbox in
    let C = g.C.Clock in
    goes_twice D.tells D.held D.moment D.images D.faults I.tells I.left I.faults O.tells O.standing O.puts O.faults C.time C.given c.args.self.now.seen c.tend-moment.new.self.seen c.go_on.new.self.seen c.tend-moment.ensures.goes c.go_on.ensures.goes

pub returns-in-Ok-Nothing-clause-job : goal.returns-in-Ok-Nothing-clause-job
returns-in-Ok-Nothing-clause-job g c job is files listed =
    let D = g.D.Disk in
    let I = g.I.Inbox in
    let O = g.O.Outbox in
    let C = g.C.Clock in
    let goes = c.tend-moment.ensures.goes in
    let none : c.args.self.now.seen.cause ≡ None = sym (ap (λ (a : AtDesk g.row.D.Denot g.row.I.Denot g.row.O.Denot g.row.C.Denot). a.seen.cause) c.self.view_is) ∙ none_there c.self.inside.cause c.if-is_some.ensures in
    let behind : c.tend-moment.new.self.seen.cause ≡ None = c.tend-moment.ensures.cause ∙ ap stopped_by c.in-Ok-Nothing.is in
    subst (λ (flow : Flow). IsReadJob flow (kept_by c.args.self.now.seen.engine.store).store I.tells files job) goes.same.flow
    (subst (λ (store : ℕ). IsReadJob c.tend-moment.new.self.seen.engine.flow store I.tells files job) goes.same.id (c.go_on.ensures.job job is files (goes.bytes behind files (listed none))))
