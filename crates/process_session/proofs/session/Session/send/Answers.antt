use Rattle.std.proofs.Common.{sym, ◌∙◌}
use Rattle.std.proofs.lemmas.Result.{err_from_is_err_and}
use Rattle.process_session.proofs.Refusing.{pass, stop}
use Rattle.process_session.proofs.session.Session.send.Goals as goal

pub returns-in_err-check_known-clause-refusal : goal.returns-in_err-check_known-clause-refusal
returns-in_err-check_known-clause-refusal c =
    let p = err_from_is_err_and c.from_residual.result c.from_residual.ensures.1 in
    rw (p.1, p.2) (sym (stop _ _ _ c.in_err-check_known.ensures.refusal))

pub returns-in_err-check_open-clause-refusal : goal.returns-in_err-check_open-clause-refusal
returns-in_err-check_open-clause-refusal c =
    let p = err_from_is_err_and c.from_residual-in_err-check_open.result c.from_residual-in_err-check_open.ensures.1 in
    rw (p.1, p.2) (sym (pass _ _ c.in_ok-check_known.ensures.refusal ∙ stop _ _ _ c.in_err-check_open.ensures.refusal))

pub returns-in_err-check_unsent-clause-refusal : goal.returns-in_err-check_unsent-clause-refusal
returns-in_err-check_unsent-clause-refusal c =
    let p = err_from_is_err_and c.from_residual-in_err-check_unsent.result c.from_residual-in_err-check_unsent.ensures.1 in
    rw (p.1, p.2) (sym (pass _ _ c.in_ok-check_known.ensures.refusal ∙ pass _ _ c.in_ok-check_open.ensures.refusal ∙ stop _ _ _ c.in_err-check_unsent.ensures.refusal))
