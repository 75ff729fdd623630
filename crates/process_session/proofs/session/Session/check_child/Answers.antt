use Rattle.std.proofs.Common.{sym, ◌∙◌}
use Rattle.std.proofs.lemmas.Result.{err_from_is_err_and}
use Rattle.process_session.proofs.Refusing.{pass, stop, no_refusal}
use Rattle.process_session.proofs.session.Session.check_child.Goals as goal

pub returns-in_err-check_known-clause-refusal : goal.returns-in_err-check_known-clause-refusal
returns-in_err-check_known-clause-refusal c =
    let p = err_from_is_err_and c.from_residual.result c.from_residual.ensures.1 in
    rw (p.1, p.2) (sym (stop _ _ _ c.in_err-check_known.ensures.refusal))

pub returns-in_err-check_open-clause-refusal : goal.returns-in_err-check_open-clause-refusal
returns-in_err-check_open-clause-refusal c =
    let p = err_from_is_err_and c.from_residual-in_err-check_open.result c.from_residual-in_err-check_open.ensures.1 in
    rw (p.1, p.2) (sym (pass _ _ c.in_ok-check_known.ensures.refusal ∙ stop _ _ _ c.in_err-check_open.ensures.refusal))

pub returns-in_err-check_inherited-clause-refusal : goal.returns-in_err-check_inherited-clause-refusal
returns-in_err-check_inherited-clause-refusal c =
    let p = err_from_is_err_and c.from_residual-in_err-check_inherited.result c.from_residual-in_err-check_inherited.ensures.1 in
    rw (p.1, p.2) (sym (pass _ _ c.in_ok-check_known.ensures.refusal ∙ pass _ _ c.in_ok-check_open.ensures.refusal ∙ stop _ _ _ c.in_err-check_inherited.ensures.refusal))

pub returns-in_err-check_heir-clause-refusal : goal.returns-in_err-check_heir-clause-refusal
returns-in_err-check_heir-clause-refusal c =
    let p = err_from_is_err_and c.from_residual-in_err-check_heir.result c.from_residual-in_err-check_heir.ensures.1 in
    rw (p.1, p.2) (sym (pass _ _ c.in_ok-check_known.ensures.refusal ∙ pass _ _ c.in_ok-check_open.ensures.refusal ∙ pass _ _ c.in_ok-check_inherited.ensures.refusal ∙ stop _ _ _ c.in_err-check_heir.ensures.refusal))

pub returns-clause-refusal : goal.returns-clause-refusal
returns-clause-refusal c = sym (pass _ _ c.in_ok-check_known.ensures.refusal ∙ pass _ _ c.in_ok-check_open.ensures.refusal ∙ pass _ _ c.in_ok-check_inherited.ensures.refusal ∙ pass _ _ c.in_ok-check_heir.ensures.refusal ∙ no_refusal)

pub returns-clause-may : goal.returns-clause-may
returns-clause-may c = record {
  there = c.in_ok-check_known.ensures.there;
  named = c.in_ok-check_inherited.ensures.named;
  files = c.in_ok-check_heir.ensures.files;
  summed = c.in_ok-check_heir.ensures.summed;
  room = c.in_ok-check_heir.ensures.room;
}
