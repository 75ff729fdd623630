use Rattle.std.proofs.Common.{◌∙◌, ap, sym, subst, Some}
use Rattle.std.specs.FinMap.{get}
use Rattle.flowfile_record.specs.Attributes.{IsWithinLimits}
use Rattle.flowfile_record.proofs.Held.{in_pairs, get_of_place, get_of_gap, limits}
use Rattle.flowfile_record.proofs.attributes.Attributes.get.Goals as goal

pub returns-in-Ok-clause-value : goal.returns-in-Ok-clause-value
returns-in-Ok-clause-value c =
    let is = rw c.deref.ensures.value at c.in-Ok.ensures.found in
    ap Some c.value.ensures ∙ sym (get_of_place _ _ c.self.invariant _ _ c.index.result.now is (in_pairs _ _ _ is) c.index.ensures) ∙ ap (λ these. get these c.args.key.now) c.self.view_is

pub returns-in-Ok-clause-limits : goal.returns-in-Ok-clause-limits
returns-in-Ok-clause-limits c = subst IsWithinLimits c.self.view_is (limits _ _ c.self.invariant)

pub returns-in-Err-clause-value : goal.returns-in-Err-clause-value
returns-in-Err-clause-value c =
    let is = rw c.deref.ensures.value at c.in-Err.ensures.absent in
    sym (get_of_gap _ _ c.self.invariant _ _ is) ∙ ap (λ these. get these c.args.key.now) c.self.view_is

pub returns-in-Err-clause-limits : goal.returns-in-Err-clause-limits
returns-in-Err-clause-limits c = subst IsWithinLimits c.self.view_is (limits _ _ c.self.invariant)
