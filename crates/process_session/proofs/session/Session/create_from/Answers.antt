use Rattle.std.proofs.Common.{sym, ◌∙◌}
use Rattle.std.proofs.lemmas.Result.{err_from_is_err_and}
use Rattle.process_session.proofs.Refused.{child_refusal}
use Rattle.process_session.proofs.Refusing.{cause, free, memory}
use Rattle.process_session.proofs.session.Session.create_from.Goals as goal

pub returns-in_err-check_child-clause-refusal : goal.returns-in_err-check_child-clause-refusal
returns-in_err-check_child-clause-refusal c =
    let p = err_from_is_err_and c.from_residual.result c.from_residual.ensures.1 in
    rw (p.1, p.2) (cause _ _ (child_refusal c.args.self.now c.args.parent ∙ sym c.in_err-check_child.ensures.refusal))

pub returns-in_err-place-clause-refusal : goal.returns-in_err-place-clause-refusal
returns-in_err-place-clause-refusal c =
    let p = err_from_is_err_and c.from_residual-in_err-place.result c.from_residual-in_err-place.ensures.1 in
    rw (p.1, p.2) (memory _ (child_refusal c.args.self.now c.args.parent ∙ sym c.in_ok-check_child.ensures.refusal))

pub returns-clause-refusal : goal.returns-clause-refusal
returns-clause-refusal c = free _ (child_refusal c.args.self.now c.args.parent ∙ sym c.in_ok-check_child.ensures.refusal)
