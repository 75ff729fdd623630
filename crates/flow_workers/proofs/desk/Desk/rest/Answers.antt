use Rattle.std.proofs.Common.{sym, ap, subst, ◌∙◌}
use Rattle.flow_workers.specs.Going.{WorkGoesOn, DeskIsInOrder}
use Rattle.flow_workers.specs.Seen.{AtDesk}
use Rattle.flow_workers.proofs.Ended.{rested_goes}
use Rattle.flow_workers.proofs.desk.Desk.rest.Goals as goal

pub returns-clause-goes : goal.returns-clause-goes
returns-clause-goes g c =
    let D = g.D.Disk in
    let I = g.I.Inbox in
    let O = g.O.Outbox in
    let C = g.C.Clock in
    let i = c.self.inside in
    let order = subst (λ (a : AtDesk g.row.D.Denot g.row.I.Denot g.row.O.Denot g.row.C.Denot). DeskIsInOrder D.tells D.held D.moment D.images I.tells I.left C.time C.given a.seen) (sym c.self.view_is) c.requires.order in
    subst (λ (a : AtDesk g.row.D.Denot g.row.I.Denot g.row.O.Denot g.row.C.Denot). WorkGoesOn D.tells D.held D.moment D.images D.faults I.tells I.left I.faults O.tells O.standing O.puts O.faults C.time C.given a.seen (record { engine = i.engine; disk = i.disk.now; inbox = i.inbox.now; outbox = i.outbox.now; clock = c.wait.new.self; cause = i.cause })) c.self.view_is
    (rested_goes D.tells D.held D.moment D.images D.faults I.tells I.left I.faults O.tells O.standing O.puts O.faults C.time C.given i.engine i.disk.now i.inbox.now i.outbox.now i.clock.now i.cause order c.played_runs_begin.ensures.waits (ap (λ (a : AtDesk g.row.D.Denot g.row.I.Denot g.row.O.Denot g.row.C.Denot). a.seen.cause) c.self.view_is ∙ c.requires.none) c.wait.new.self c.wait.ensures.later)
