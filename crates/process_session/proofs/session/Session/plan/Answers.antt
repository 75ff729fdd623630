use Rattle.std.proofs.Common.{◌∙◌}
use Rattle.std.proofs.lemmas.Result.{err_from_is_err_and}
use Rattle.process_session.proofs.Refusing.{pass, stop, cause, free, memory, no_refusal}
use Rattle.process_session.proofs.session.Session.plan.Goals as goal

pub returns-in_err-check_accounted-clause-refusal : goal.returns-in_err-check_accounted-clause-refusal
returns-in_err-check_accounted-clause-refusal c =
    let p = err_from_is_err_and c.from_residual.result c.from_residual.ensures.1 in
    rw (p.1, p.2) (cause _ _ (stop _ _ _ c.in_err-check_accounted.ensures))

pub returns-in_err-plan-clause-refusal : goal.returns-in_err-plan-clause-refusal
returns-in_err-plan-clause-refusal c =
    let p = err_from_is_err_and c.from_residual-in_err-plan.result c.from_residual-in_err-plan.ensures.1 in
    rw (p.1, p.2) (memory _ (pass _ _ c.in_ok-check_accounted.ensures ∙ no_refusal))

pub returns-clause-refusal : goal.returns-clause-refusal
returns-clause-refusal c = free _ (pass _ _ c.in_ok-check_accounted.ensures ∙ no_refusal)
