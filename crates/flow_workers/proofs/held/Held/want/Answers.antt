use Rattle.flow_workers.proofs.Twice.{still_held}
use Rattle.flow_workers.proofs.held.Held.want.Goals as goal

pub invariant_of-self : goal.invariant_of-self
invariant_of-self g c =
    let D = g.D.Disk in
    let I = g.I.Inbox in
    let O = g.O.Outbox in
    let C = g.C.Clock in
    still_held D.tells D.held D.moment D.images D.faults I.tells I.left I.faults O.tells O.standing O.puts O.faults C.time C.given g.R.Named.flow g.R.Named.store g.R.Named.files g.R.Named.lent g.R.Run.began c.self.inside.desk c.want.new.self c.self.invariant c.want.ensures.goes c.want.ensures.lent
