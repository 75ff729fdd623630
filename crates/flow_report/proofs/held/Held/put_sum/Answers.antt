use Rattle.std.proofs.lemmas.Result.{err_from_is_err_and}
use Rattle.std.proofs.Common.{◌+◌, ◌%◌, arith}
use Rattle.std.specs.Fmt.{decimal}
use Rattle.flow_report.proofs.Decimals.{decimal-sum, decimal-small}
use Rattle.flow_report.proofs.Writing.{puts-named, puts-then, puts-failed}
use Rattle.flow_report.proofs.held.Held.put_sum.Goals as goal

pub returns-then-tens-eq0-clause-put : goal.returns-then-tens-eq0-clause-put
returns-then-tens-eq0-clause-put g c = λ tells.
    puts-named _ _ _ _ _ _ _ (decimal-small c.args.one c.args.other (omega (arith, c.if-tens-eq0.true))) (c.put_number.ensures.put tells)

pub returns-in_err-put_number-clause-put : goal.returns-in_err-put_number-clause-put
returns-in_err-put_number-clause-put g c = λ tells. let p = err_from_is_err_and c.from_residual.result c.from_residual.ensures.1 in
    rw p.1
    (puts-named _ _ _ _ _ _ _ (decimal-sum c.args.one c.args.other c.ranges.one.fits c.ranges.other.fits (omega (arith, c.if-tens-eq0.false)))
    (puts-failed _ (decimal ((c.args.one % 10 + c.args.other % 10) % 10)) _ _ _ _ _ (c.in_err-put_number.ensures.put tells)))

pub returns-clause-put : goal.returns-clause-put
returns-clause-put g c = λ tells.
    puts-named _ _ _ _ _ _ _ (decimal-sum c.args.one c.args.other c.ranges.one.fits c.ranges.other.fits (omega (arith, c.if-tens-eq0.false)))
    (puts-then _ _ _ _ _ _ _ _ _ (c.in_ok-put_number.ensures.put tells) (c.put_number-3.ensures.put tells))
