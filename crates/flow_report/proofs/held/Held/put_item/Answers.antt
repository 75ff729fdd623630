use Rattle.std.proofs.lemmas.Result.{err_from_is_err_and}
use Rattle.std.proofs.Common.{[], ◌∷◌}
use Rattle.json.specs.Print.{quoted}
use Rattle.flow_report.specs.Words.{identifier_text}
use Rattle.flow_report.proofs.Writing.{puts-failed}
use Rattle.flow_report.proofs.held.Held.put_item.Goals as goal

pub returns-in_err-put-clause-put : goal.returns-in_err-put-clause-put
returns-in_err-put-clause-put g c = λ tells. let p = err_from_is_err_and c.from_residual.result c.from_residual.ensures.1 in
    rw (p.1, c.if-not-is_later.false)
    (puts-failed (44 ∷ []) (quoted (identifier_text c.args.id.now)) _ _ _ _ _ (c.in_err-put.ensures.put tells))
