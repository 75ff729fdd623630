use Rattle.std.proofs.Common.{inl, refl, sym, subst}
use Rattle.std.proofs.lemmas.Result.{err_from_is_err_and}
use Rattle.run_law.specs.Puts.{outgoing}
use Rattle.engine_steps.specs.Committing.{HasWritten}
use Rattle.engine_steps.specs.Engine.{EngineState}
use Rattle.engine_steps.proofs.Written.{unwritten_by}
use Rattle.engine_steps.proofs.engine.Engine.write.Goals as goal

pub returns-in_err-reserve-clause-written : goal.returns-in_err-reserve-clause-written
returns-in_err-reserve-clause-written g c =
    let D = g.D.Disk in
    let e = c.args.self.now in
    let out = outgoing g.O.Outbox.standing g.O.Outbox.puts c.args.outbox.now in
    let p = err_from_is_err_and c.from_residual.result c.from_residual.ensures.1 in
    subst (λ (x : EngineState). HasWritten c.from_residual.result D.tells D.held D.moment D.images g.O.Outbox.tells e.store x.store e.queues x.queues c.args.changed out out c.args.disk.now c.args.disk.now) (sym c.self.view_is)
    (unwritten_by D.tells D.held D.moment D.images g.O.Outbox.tells e.store e.store e.queues e.queues c.args.changed out out c.args.disk.now c.args.disk.now
    p.0 (inl p.2) refl refl (λ flow taken are. are)
    (λ not. refl) (λ put. absurd (cc (p.2, put))) (λ limit limited. absurd (cc (p.2, limited)))
    c.from_residual.result p.1)
