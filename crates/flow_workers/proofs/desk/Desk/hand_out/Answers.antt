use Rattle.std.proofs.Common.{◌≡◌, subst}
use Rattle.store_core.specs.Store.{kept_by}
use Rattle.engine_session.specs.declared.job.Job.{Job}
use Rattle.flow_workers.specs.Jobs.{IsReadJob}
use Rattle.flow_workers.proofs.desk.Desk.hand_out.Goals as goal

pub returns-in-Ok-clause-job : goal.returns-in-Ok-clause-job
returns-in-Ok-clause-job g c job is files listed =
    let same : c.in-Ok.job ≡ job = cc in
    let e = c.args.self.now.seen.engine in
    subst (λ (j : Job). IsReadJob e.flow (kept_by e.store).store g.I.Inbox.tells files j) same (c.in-Ok.ensures.job files listed)
