use Rattle.std.proofs.Common.{ap, arith}
use Rattle.std.proofs.lemmas.Result.{err_from_is_err_and}
use Rattle.flow_query.specs.Texts.{event_text}
use Rattle.flow_query.proofs.Written.{leaves-all, item-more, item-failed, items-done}
use Rattle.flow_query.proofs.lines.write_events.Goals as goal

pub loop-event-init : goal.loop-event-init
loop-event-init g c = record { left = λ tells. leaves-all _ _; faults = omega arith }

pub loop-event-preserved : goal.loop-event-preserved
loop-event-preserved g c = record {
  left = λ tells.
      item-more (event_text c.args.store) _ c.args.events.now c.loop-event.event-index c.event-item.result _ _ _ _ c.loop-event-test.true (ap (event_text c.args.store) c.event-item.is)
      (c.loop-event.invariant.left tells) (c.in_ok-write_line.ensures.written tells);
  faults = omega (arith, c.loop-event.invariant.faults, c.write_line.ensures.cause.never_falls);
}

pub returns-in_err-write_line-clause-written : goal.returns-in_err-write_line-clause-written
returns-in_err-write_line-clause-written g c = λ tells. let p = err_from_is_err_and c.from_residual.result c.from_residual.ensures.1 in rw p.1
    (item-failed (event_text c.args.store) _ c.args.events.now c.loop-event.event-index c.event-item.result _ _ _ _ _ c.loop-event-test.true (ap (event_text c.args.store) c.event-item.is)
    (c.loop-event.invariant.left tells) (c.in_err-write_line.ensures.written tells))

pub returns-clause-written : goal.returns-clause-written
returns-clause-written g c = λ tells. items-done (event_text c.args.store) _ c.args.events.now c.loop-event.event-index _ _ c.loop-event-test.false (c.loop-event.invariant.left tells)
