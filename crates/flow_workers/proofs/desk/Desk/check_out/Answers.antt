use Rattle.std.proofs.Common.{sym, subst}
use Rattle.flow_workers.specs.Going.{WorkGoesOn, DeskIsInOrder, IsTended}
use Rattle.flow_workers.specs.Seen.{AtDesk}
use Rattle.flow_workers.proofs.CheckedOut.{checked_goes}
use Rattle.flow_workers.proofs.desk.Desk.check_out.Goals as goal

pub returns-clause-goes : goal.returns-clause-goes
returns-clause-goes g c =
    let D = g.D.Disk in
    let I = g.I.Inbox in
    let O = g.O.Outbox in
    let C = g.C.Clock in
    let i = c.self.inside in
    let order = subst (λ (a : AtDesk g.row.D.Denot g.row.I.Denot g.row.O.Denot g.row.C.Denot). DeskIsInOrder D.tells D.held D.moment D.images I.tells I.left C.time C.given a.seen) (sym c.self.view_is) c.requires.order in
    subst (λ (a : AtDesk g.row.D.Denot g.row.I.Denot g.row.O.Denot g.row.C.Denot). WorkGoesOn D.tells D.held D.moment D.images D.faults I.tells I.left I.faults O.tells O.standing O.puts O.faults C.time C.given a.seen (record { engine = c.checkout-next.new.self; disk = i.disk.now; inbox = i.inbox.now; outbox = i.outbox.now; clock = i.clock.now; cause = c.ended_by_checkout-self-inside.result })) c.self.view_is
    (let r = c.checkout-next in
    let laws = g.met.D.Disk g.world.𝓛 g.world.𝓜 g.world.𝓡 ((λ s x. x), (λ x. x), (λ x. x), λ x. x) in
    let tended = subst (λ (a : AtDesk g.row.D.Denot g.row.I.Denot g.row.O.Denot g.row.C.Denot). IsTended D.moment D.images C.time C.given c.args.moment a.seen) (sym c.self.view_is) c.requires.tended in
    checked_goes D.tells D.held D.moment D.images D.faults I.tells I.left I.faults O.tells O.standing O.puts O.faults C.time C.given i.engine i.disk.now i.inbox.now i.outbox.now i.clock.now i.cause order (c.args.moment, tended) c.played_runs_end.ensures.ends c.shows_its_state.ensures c.calls_play_on.ensures.checks_out c.played_runs_end.ensures.full
    (λ telling. laws.held_is_left i.disk.now telling) r.result r.new.self r.ensures.next r.ensures.leaves r.ensures.ready r.ensures.reopen r.ensures.kinds c.ended_by_checkout-self-inside.result c.ended_by_checkout-self-inside.ensures)
