use Rattle.std.proofs.Common.{sym, ap, subst, ◌∙◌}
use Rattle.flow_workers.specs.Going.{WorkGoesOn, DeskIsInOrder}
use Rattle.flow_workers.specs.Seen.{AtDesk}
use Rattle.flow_workers.proofs.WasRead.{read_goes}
use Rattle.engine_steps.specs.Flights.{is_in_flight}
use Rattle.std.specs.Prelude.{IfOk, List}
use Rattle.flowfile_record.specs.NamedFile.{NamedFile}
use Rattle.content_repo.specs.Claims.{content_in}
use Rattle.store_core.specs.Store.{kept_by}
use Rattle.engine_session.specs.declared.job.Job.{Job}
use Rattle.engine_steps.specs.Flights.{names_to_come}
use Rattle.flow_workers.specs.Jobs.{AreAsListed, IsReadJob}
use Rattle.flow_workers.proofs.ByCalls.{works_on}
use Rattle.flow_workers.proofs.Jobs.{jobs_are_read}
use Rattle.flow_workers.proofs.desk.Desk.read.Goals as goal

pub returns-clause-goes : goal.returns-clause-goes
returns-clause-goes g c =
    let D = g.D.Disk in
    let I = g.I.Inbox in
    let O = g.O.Outbox in
    let C = g.C.Clock in
    let i = c.self.inside in
    let order = subst (λ (a : AtDesk g.row.D.Denot g.row.I.Denot g.row.O.Denot g.row.C.Denot). DeskIsInOrder D.tells D.held D.moment D.images I.tells I.left C.time C.given a.seen) (sym c.self.view_is) c.requires.order in
    subst (λ (a : AtDesk g.row.D.Denot g.row.I.Denot g.row.O.Denot g.row.C.Denot). WorkGoesOn D.tells D.held D.moment D.images D.faults I.tells I.left I.faults O.tells O.standing O.puts O.faults C.time C.given a.seen (record { engine = c.read-job.new.self; disk = c.read-job.new.disk; inbox = c.read-job.new.inbox; outbox = c.read-job.new.outbox; clock = i.clock.now; cause = c.stopped_by-self-inside.result })) c.self.view_is
    (let r = c.read-job in
    read_goes D.tells D.held D.moment D.images D.faults I.tells I.left I.faults O.tells O.standing O.puts O.faults C.time C.given i.engine r.new.self i.disk.now r.new.disk i.inbox.now r.new.inbox i.outbox.now r.new.outbox i.clock.now i.cause c.stopped_by-self-inside.result c.calls_play_on.ensures.reads order (ap (λ (a : AtDesk g.row.D.Denot g.row.I.Denot g.row.O.Denot g.row.C.Denot). a.seen.cause) c.self.view_is ∙ c.requires.none) r.result c.stopped_by-self-inside.ensures c.args.session
    (ap (λ (a : AtDesk g.row.D.Denot g.row.I.Denot g.row.O.Denot g.row.C.Denot). is_in_flight c.args.session a.seen.engine.out) c.self.view_is ∙ c.requires.flying) r.ensures.engine r.ensures.world.0 r.ensures.world.1 r.ensures.world.2 r.ensures.usable r.ensures.refusal)

pub returns-clause-job : goal.returns-clause-job
returns-clause-job g c =
    let D = g.D.Disk in
    let I = g.I.Inbox in
    let O = g.O.Outbox in
    let C = g.C.Clock in
    let i = c.self.inside in
    let order = subst (λ (a : AtDesk g.row.D.Denot g.row.I.Denot g.row.O.Denot g.row.C.Denot). DeskIsInOrder D.tells D.held D.moment D.images I.tells I.left C.time C.given a.seen) (sym c.self.view_is) c.requires.order in
    let works = works_on D.tells D.held D.moment D.images I.tells I.left C.time C.given (record { engine = i.engine; disk = i.disk.now; inbox = i.inbox.now; outbox = i.outbox.now; clock = i.clock.now; cause = i.cause }) order (ap (λ (a : AtDesk g.row.D.Denot g.row.I.Denot g.row.O.Denot g.row.C.Denot). a.seen.cause) c.self.view_is ∙ c.requires.none) in
    subst (λ (a : AtDesk g.row.D.Denot g.row.I.Denot g.row.O.Denot g.row.C.Denot). IfOk c.read-job.result (λ (job : Job). (files : List NamedFile) → AreAsListed I.tells files (I.left a.seen.inbox) (names_to_come a.seen.engine) → IsReadJob a.seen.engine.flow (kept_by a.seen.engine.store).store I.tells files job)) c.self.view_is
    (jobs_are_read c.read-job.result D.tells I.tells O.tells i.engine (content_in (D.held i.disk.now)) (I.left i.inbox.now) (O.standing i.outbox.now) c.args.session (order.usable.usable works).memory c.read-job.ensures.job)
