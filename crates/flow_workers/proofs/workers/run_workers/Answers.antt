use Rattle.std.proofs.Common.{refl, rules}
use Rattle.std.specs.Prelude.{None}
use Rattle.flow_workers.specs.Seen.{Seen}
use Rattle.flow_workers.proofs.Twice.{gone_at_last, held_at_first}
use Rattle.flow_workers.proofs.workers.run_workers.Goals as goal

pub drive-engine-requires-clause-held : goal.drive-engine-requires-clause-held
drive-engine-requires-clause-held g c κs within =
    let D = g.D.Disk in
    let I = g.I.Inbox in
    let O = g.O.Outbox in
    let C = g.C.Clock in
    held_at_first D.tells D.held D.moment D.images D.faults I.tells I.left I.faults O.tells O.standing O.puts O.faults C.time C.given c.args.engine c.args.disk.now c.args.inbox.now c.args.outbox.now c.args.clock.now _ c.requires

pub returns : goal.returns
returns g c =
    let D = g.D.Disk in
    let I = g.I.Inbox in
    let O = g.O.Outbox in
    let C = g.C.Clock in
    let driven = c.drive-engine.result in
    let began : Seen g.row.D.Denot g.row.I.Denot g.row.O.Denot g.row.C.Denot = record { engine = c.args.engine; disk = c.args.disk.now; inbox = c.args.inbox.now; outbox = c.args.outbox.now; clock = c.args.clock.now; cause = None } in
    gone_at_last D.tells D.held D.moment D.images D.faults I.tells I.left I.faults O.tells O.standing O.puts O.faults C.time C.given began
    (record { engine = driven.engine; disk = driven.lent.disk.now; inbox = driven.lent.inbox.now; outbox = driven.lent.outbox.now; clock = driven.lent.clock.now; cause = driven.cause }) c.in-Some.cause _ _ _ _ c.in-Some.is (search rules)
    (search rules) (search rules) (search rules) (c.drive-engine.ensures.held.goes began refl)
