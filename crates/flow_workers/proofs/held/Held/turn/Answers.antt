use Rattle.std.proofs.Common.{subst}
use Rattle.std.specs.Prelude.{ℕ}
use Rattle.machine_model.specs.declared.flow.Flow.{Flow}
use Rattle.store_core.specs.Store.{kept_by}
use Rattle.flow_workers.specs.Jobs.{IsReadJob}
use Rattle.flow_workers.proofs.Twice.{still_held}
use Rattle.flow_workers.proofs.held.Held.turn.Goals as goal

pub invariant_of-self : goal.invariant_of-self
invariant_of-self g c =
    let D = g.D.Disk in
    let I = g.I.Inbox in
    let O = g.O.Outbox in
    let C = g.C.Clock in
    still_held D.tells D.held D.moment D.images D.faults I.tells I.left I.faults O.tells O.standing O.puts O.faults C.time C.given g.R.Named.flow g.R.Named.store g.R.Named.files g.R.Named.lent g.R.Run.began c.self.inside.desk c.turn.new.self c.self.invariant c.turn.ensures.goes c.turn.ensures.lent

pub returns-clause-job : goal.returns-clause-job
returns-clause-job g c job is =
    let tells = g.I.Inbox.tells in
    let files = g.R.Named.files in
    let held = c.self.invariant in
    let e = c.self.inside.desk.seen.engine in
    subst (λ (store : ℕ). IsReadJob g.R.Named.flow store tells files job) held.store_is
    (subst (λ (flow : Flow). IsReadJob flow (kept_by e.store).store tells files job) held.flow_is (c.turn.ensures.job job is files held.bytes))
