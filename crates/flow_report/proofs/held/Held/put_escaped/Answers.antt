use Rattle.std.proofs.lemmas.Result.{err_from_is_err_and}
use Rattle.std.proofs.Common.{arith}
use Rattle.json.specs.Print.{escape_byte}
use Rattle.flow_report.proofs.Writing.{puts-nothing, puts-more, puts-more-failed, puts-all}
use Rattle.flow_report.proofs.held.Held.put_escaped.Goals as goal

pub loop-byte-init : goal.loop-byte-init
loop-byte-init g c = record { put = λ tells. puts-nothing _ _; faults = omega arith }

pub loop-byte-preserved : goal.loop-byte-preserved
loop-byte-preserved g c = record {
  put = λ tells.
      puts-more escape_byte c.args.text.now c.loop-byte.byte-index 0 _ _ _ _ _ _ c.loop-byte-test.true (c.loop-byte.invariant.put tells) (c.in_ok-put_escape.ensures.put tells);
  faults = omega (arith, c.loop-byte.invariant.faults, c.put_escape.ensures.cause.never_falls);
}

pub returns-in_err-put_escape-clause-put : goal.returns-in_err-put_escape-clause-put
returns-in_err-put_escape-clause-put g c = λ tells. let p = err_from_is_err_and c.from_residual.result c.from_residual.ensures.1 in
    rw p.1
    (puts-more-failed escape_byte c.args.text.now c.loop-byte.byte-index 0 _ _ _ _ _ _ _ c.loop-byte-test.true (c.loop-byte.invariant.put tells) (c.in_err-put_escape.ensures.put tells))

pub returns-clause-put : goal.returns-clause-put
returns-clause-put g c = λ tells. puts-all escape_byte c.args.text.now c.loop-byte.byte-index _ _ _ _ c.loop-byte-test.false (c.loop-byte.invariant.put tells)
