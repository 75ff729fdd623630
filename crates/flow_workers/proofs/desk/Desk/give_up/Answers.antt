use Rattle.flow_workers.proofs.Twice.{goes_twice}
use Rattle.flow_workers.proofs.desk.Desk.give_up.Goals as goal

pub returns-clause-goes : goal.returns-clause-goes
returns-clause-goes g c =
    let D = g.D.Disk in
    let I = g.I.Inbox in
    let O = g.O.Outbox in
    let C = g.C.Clock in
    goes_twice D.tells D.held D.moment D.images D.faults I.tells I.left I.faults O.tells O.standing O.puts O.faults C.time C.given c.args.self.now.seen c.end.new.self.seen c.want.new.self.seen c.end.ensures.goes c.want.ensures.goes
