use Rattle.std.proofs.Common.{sym, ◌∙◌}
use Rattle.std.proofs.lemmas.Result.{err_from_is_err_and}
use Rattle.process_session.proofs.Refused.{range_refusal}
use Rattle.process_session.proofs.Refusing.{cause, free, memory}
use Rattle.process_session.proofs.session.Session.clone_range.Goals as goal

pub returns-in_err-check_part-clause-refusal : goal.returns-in_err-check_part-clause-refusal
returns-in_err-check_part-clause-refusal c =
    let p = err_from_is_err_and c.from_residual.result c.from_residual.ensures.1 in
    rw (p.1, p.2) (cause _ _ (range_refusal c.args.self.now c.args.of c.args.offset c.args.size ∙ sym c.in_err-check_part.ensures.refusal))

pub returns-in_err-place-clause-refusal : goal.returns-in_err-place-clause-refusal
returns-in_err-place-clause-refusal c =
    let p = err_from_is_err_and c.from_residual-in_err-place.result c.from_residual-in_err-place.ensures.1 in
    rw (p.1, p.2) (memory _ (range_refusal c.args.self.now c.args.of c.args.offset c.args.size ∙ sym c.in_ok-check_part.ensures.refusal))

pub returns-clause-refusal : goal.returns-clause-refusal
returns-clause-refusal c = free _ (range_refusal c.args.self.now c.args.of c.args.offset c.args.size ∙ sym c.in_ok-check_part.ensures.refusal)
