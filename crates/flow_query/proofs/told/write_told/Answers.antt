use Rattle.std.proofs.Common.{refl, sym, ap, arith, drop, ◌+◌}
use Rattle.std.specs.List.{flat_map}
use Rattle.std.proofs.lemmas.Result.{err_from_is_err_and}
use Rattle.flow_query.specs.Parts.{events_at}
use Rattle.flow_query.specs.Texts.{event_text}
use Rattle.flow_query.proofs.Telling.{next_at, none_at}
use Rattle.flow_query.proofs.Written.{leaves-all, first-more, first-failed, writes-done}
use Rattle.flow_query.proofs.told.write_told.Goals as goal

pub loop-number-init : goal.loop-number-init
loop-number-init g c = record { left = λ tells. leaves-all _ _; faults = omega arith }

pub loop-number-preserved : goal.loop-number-preserved
loop-number-preserved g c =
    let i = c.loop-number.number-index in
    let numbers = c.args.numbers.now in
    let events = c.args.events.now in
    record {
      left = λ tells.
          first-more (event_text c.args.store) _ (events_at events (drop i numbers)) (events_at events (drop (i + 1) numbers)) c.in-Some.event.now _ _ _ _
          (next_at events numbers i 0 c.in-Some.event.now c.loop-number-test.true (sym c.in-Some.ensures.event)) refl (c.loop-number.invariant.left tells) (c.in_ok-write_line.ensures.written tells);
      faults = omega (arith, c.loop-number.invariant.faults, c.write_line.ensures.cause.never_falls);
    }

pub returns-in_err-write_line-clause-written : goal.returns-in_err-write_line-clause-written
returns-in_err-write_line-clause-written g c = λ tells. let p = err_from_is_err_and c.from_residual.result c.from_residual.ensures.1 in rw p.1
    (let i = c.loop-number.number-index in
    let numbers = c.args.numbers.now in
    let events = c.args.events.now in
    first-failed (event_text c.args.store) _ (events_at events (drop i numbers)) (events_at events (drop (i + 1) numbers)) c.in-Some.event.now _ _ _ _ _
    (next_at events numbers i 0 c.in-Some.event.now c.loop-number-test.true (sym c.in-Some.ensures.event)) refl (c.loop-number.invariant.left tells) (c.in_err-write_line.ensures.written tells))

pub returns-clause-written : goal.returns-clause-written
returns-clause-written g c = λ tells.
    writes-done _ _ _ _ (ap (flat_map (event_text c.args.store)) (none_at c.args.events.now c.args.numbers.now c.loop-number.number-index c.loop-number-test.false)) (c.loop-number.invariant.left tells)
