use Rattle.std.proofs.Common.{sym, ap, subst, ◌∙◌}
use Rattle.flow_workers.specs.Going.{WorkGoesOn, DeskIsInOrder}
use Rattle.flow_workers.specs.Seen.{AtDesk}
use Rattle.flow_workers.proofs.Tended.{tended_fails, tended_goes}
use Rattle.flow_workers.proofs.ByCalls.{works_on}
use Rattle.run_law.specs.Puts.{outgoing}
use Rattle.flow_workers.proofs.desk.Desk.tend.Goals as goal

pub returns-clause-goes : goal.returns-clause-goes
returns-clause-goes g c =
    let D = g.D.Disk in
    let I = g.I.Inbox in
    let O = g.O.Outbox in
    let C = g.C.Clock in
    let i = c.self.inside in
    let order = subst (λ (a : AtDesk g.row.D.Denot g.row.I.Denot g.row.O.Denot g.row.C.Denot). DeskIsInOrder D.tells D.held D.moment D.images I.tells I.left C.time C.given a.seen) (sym c.self.view_is) c.requires.order in
    subst (λ (a : AtDesk g.row.D.Denot g.row.I.Denot g.row.O.Denot g.row.C.Denot). WorkGoesOn D.tells D.held D.moment D.images D.faults I.tells I.left I.faults O.tells O.standing O.puts O.faults C.time C.given a.seen (record { engine = c.tend-tended.new.self; disk = c.tend-tended.new.disk; inbox = i.inbox.now; outbox = i.outbox.now; clock = c.now-moment.new.self; cause = c.stopped_by-self-inside.result })) c.self.view_is
    (let none = (ap (λ (a : AtDesk g.row.D.Denot g.row.I.Denot g.row.O.Denot g.row.C.Denot). a.seen.cause) c.self.view_is ∙ c.requires.none) in
    let works = works_on D.tells D.held D.moment D.images I.tells I.left C.time C.given (record { engine = i.engine; disk = i.disk.now; inbox = i.inbox.now; outbox = i.outbox.now; clock = i.clock.now; cause = i.cause }) order none in
    let t = c.tend-tended in
    let fails = tended_fails D.tells D.held D.moment D.images D.faults I.tells I.left I.faults O.tells O.standing O.puts O.faults C.time C.given i.engine t.new.self i.disk.now t.new.disk i.inbox.now i.outbox.now i.clock.now c.now-moment.new.self i.cause c.stopped_by-self-inside.result order none t.result c.stopped_by-self-inside.ensures c.now-moment.result c.now-moment.ensures.moment c.now-moment.ensures.later
    c.now-moment.ensures.answer t.ensures.tended t.ensures.alone t.ensures.usable t.ensures.refusal in
    tended_goes D.tells D.held D.moment D.images D.faults I.tells I.left I.faults O.tells O.standing O.puts O.faults C.time C.given i.engine t.new.self i.disk.now t.new.disk i.inbox.now i.outbox.now i.clock.now c.now-moment.new.self i.cause c.stopped_by-self-inside.result order none t.result c.stopped_by-self-inside.ensures c.now-moment.result c.now-moment.ensures.moment c.now-moment.ensures.later
    c.now-moment.ensures.answer t.ensures.tended t.ensures.alone t.ensures.usable t.ensures.refusal
    (λ telling. c.calls_play_on.ensures.tends t.result c.now-moment.result i.engine t.new.self i.disk.now t.new.disk (I.left i.inbox.now) (outgoing O.standing O.puts i.outbox.now) (c.shows_its_state.ensures telling) works fails t.ensures.tended t.ensures.alone (t.ensures.run telling)))
