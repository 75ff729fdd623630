use Rattle.std.proofs.Common.{sym}
use Rattle.std.proofs.lemmas.Result.{err_from_is_err_and}
use Rattle.process_session.proofs.Refusing.{stop}
use Rattle.process_session.proofs.session.Session.check_write.Goals as goal

pub returns-in_err-check_known-clause-refusal : goal.returns-in_err-check_known-clause-refusal
returns-in_err-check_known-clause-refusal c =
    let p = err_from_is_err_and c.from_residual.result c.from_residual.ensures.1 in
    rw (p.1, p.2) (sym (stop _ _ _ c.in_err-check_known.ensures.refusal))
