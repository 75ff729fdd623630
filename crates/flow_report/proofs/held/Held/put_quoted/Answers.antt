use Rattle.std.proofs.lemmas.Result.{err_from_is_err_and}
use Rattle.std.proofs.Common.{[], ◌∷◌, ◌++◌}
use Rattle.json.specs.Print.{escape}
use Rattle.flow_report.proofs.Writing.{puts-then, puts-failed}
use Rattle.flow_report.proofs.held.Held.put_quoted.Goals as goal

pub returns-in_err-put-clause-put : goal.returns-in_err-put-clause-put
returns-in_err-put-clause-put g c = λ tells. let p = err_from_is_err_and c.from_residual.result c.from_residual.ensures.1 in
    rw p.1
    (puts-failed (34 ∷ []) (escape c.args.text.now ++ 34 ∷ []) _ _ _ _ _ (c.in_err-put.ensures.put tells))

pub returns-in_err-put_escaped-clause-put : goal.returns-in_err-put_escaped-clause-put
returns-in_err-put_escaped-clause-put g c = λ tells. let p = err_from_is_err_and c.from_residual-in_err-put_escaped.result c.from_residual-in_err-put_escaped.ensures.1 in
    rw p.1
    (puts-failed (34 ∷ escape c.args.text.now) (34 ∷ []) _ _ _ _ _
    (puts-then (34 ∷ []) (escape c.args.text.now) _ _ _ _ _ _ _ (c.in_ok-put.ensures.put tells) (c.in_err-put_escaped.ensures.put tells)))

pub returns-clause-put : goal.returns-clause-put
returns-clause-put g c = λ tells.
    puts-then (34 ∷ escape c.args.text.now) (34 ∷ []) _ _ _ _ _ _ _
    (puts-then (34 ∷ []) (escape c.args.text.now) _ _ _ _ _ _ _ (c.in_ok-put.ensures.put tells) (c.in_ok-put_escaped.ensures.put tells))
    (c.put-2.ensures.put tells)
