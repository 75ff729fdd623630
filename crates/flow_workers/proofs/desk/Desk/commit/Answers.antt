use Rattle.std.proofs.Common.{sym, ap, subst, ◌∙◌}
use Rattle.flow_workers.specs.Going.{WorkGoesOn, DeskIsInOrder}
use Rattle.flow_workers.specs.Seen.{AtDesk}
use Rattle.flow_workers.proofs.Committed.{committed_goes}
use Rattle.std.specs.Prelude.{List}
use Rattle.flowfile_record.specs.NamedFile.{NamedFile}
use Rattle.store_core.specs.Store.{kept_by}
use Rattle.engine_session.specs.Done.{WorkIsDone}
use Rattle.engine_steps.specs.Flights.{names_to_come}
use Rattle.flow_workers.specs.Jobs.{AreAsListed}
use Rattle.flow_workers.proofs.ByCalls.{works_on}
use Rattle.flow_workers.proofs.Jobs.{is_work_for}
use Rattle.flow_workers.proofs.desk.Desk.commit.Goals as goal

pub returns-clause-goes : goal.returns-clause-goes
returns-clause-goes g c =
    let D = g.D.Disk in
    let I = g.I.Inbox in
    let O = g.O.Outbox in
    let C = g.C.Clock in
    let i = c.self.inside in
    let order = subst (λ (a : AtDesk g.row.D.Denot g.row.I.Denot g.row.O.Denot g.row.C.Denot). DeskIsInOrder D.tells D.held D.moment D.images I.tells I.left C.time C.given a.seen) (sym c.self.view_is) c.requires.order in
    subst (λ (a : AtDesk g.row.D.Denot g.row.I.Denot g.row.O.Denot g.row.C.Denot). WorkGoesOn D.tells D.held D.moment D.images D.faults I.tells I.left I.faults O.tells O.standing O.puts O.faults C.time C.given a.seen (record { engine = c.commit-committed.new.self; disk = c.commit-committed.new.disk; inbox = c.commit-committed.new.inbox; outbox = c.commit-committed.new.outbox; clock = i.clock.now; cause = c.stopped_by-self-inside.result })) c.self.view_is
    (let r = c.commit-committed in
    committed_goes D.tells D.held D.moment D.images D.faults I.tells I.left I.faults O.tells O.standing O.puts O.faults C.time C.given i.engine r.new.self i.disk.now r.new.disk i.inbox.now r.new.inbox i.outbox.now r.new.outbox i.clock.now i.cause c.stopped_by-self-inside.result order (ap (λ (a : AtDesk g.row.D.Denot g.row.I.Denot g.row.O.Denot g.row.C.Denot). a.seen.cause) c.self.view_is ∙ c.requires.none) r.result c.stopped_by-self-inside.ensures c.args.done r.ensures.entered r.ensures.stands r.ensures.usable r.ensures.alone
    r.ensures.refusal c.calls_play_on.ensures.commits r.ensures.run)

pub commit-committed-requires-clause-done : goal.commit-committed-requires-clause-done
commit-committed-requires-clause-done g c κs within =
    let D = g.D.Disk in
    let I = g.I.Inbox in
    let O = g.O.Outbox in
    let C = g.C.Clock in
    let i = c.self.inside in
    let order = subst (λ (a : AtDesk g.row.D.Denot g.row.I.Denot g.row.O.Denot g.row.C.Denot). DeskIsInOrder D.tells D.held D.moment D.images I.tells I.left C.time C.given a.seen) (sym c.self.view_is) c.requires.order in
    let works = works_on D.tells D.held D.moment D.images I.tells I.left C.time C.given (record { engine = i.engine; disk = i.disk.now; inbox = i.inbox.now; outbox = i.outbox.now; clock = i.clock.now; cause = i.cause }) order (ap (λ (a : AtDesk g.row.D.Denot g.row.I.Denot g.row.O.Denot g.row.C.Denot). a.seen.cause) c.self.view_is ∙ c.requires.none) in
    let done = subst (λ (a : AtDesk g.row.D.Denot g.row.I.Denot g.row.O.Denot g.row.C.Denot). (files : List NamedFile) × AreAsListed I.tells files (I.left a.seen.inbox) (names_to_come a.seen.engine) × WorkIsDone a.seen.engine.flow (kept_by a.seen.engine.store).store I.tells files c.args.done) (sym c.self.view_is) c.requires.done in
    is_work_for I.tells i.engine done.0 (I.left i.inbox.now) c.args.done (order.usable.usable works).memory done.1 done.2
