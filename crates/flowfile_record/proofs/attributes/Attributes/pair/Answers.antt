use Rattle.std.proofs.Common.{◌≡◌, ◌∙◌, slice_get, Option, Some, List, ℕ, ap, subst}
use Rattle.std.specs.FinMap.{entries}
use Rattle.flowfile_record.specs.Attributes.{IsWithinLimits}
use Rattle.flowfile_record.proofs.Held.{pair_at, pair_past, limits}
use Rattle.flowfile_record.proofs.attributes.Attributes.pair.Goals as goal

pub returns-in-Some-clause-pair : goal.returns-in-Some-clause-pair
returns-in-Some-clause-pair c =
    let pair = c.in-Some.pair.now in
    let lt = rw c.deref.ensures.value at c.in-Some.ensures.lookup.3.0 in
    let read = rw c.deref.ensures.value at c.in-Some.ensures.lookup.1 in
    let texts : ◌≡◌ {A = Option (List ℕ × List ℕ)} (Some (c.key.result.now, c.value.result.now)) (Some (pair.key, pair.value)) = λ i. Some (c.key.ensures i, c.value.ensures i) in
    texts ∙ pair_at _ _ c.args.place pair c.self.invariant lt read ∙ ap (λ these. slice_get (entries these) c.args.place) c.self.view_is

pub returns-in-Some-clause-limits : goal.returns-in-Some-clause-limits
returns-in-Some-clause-limits c = subst IsWithinLimits c.self.view_is (limits _ _ c.self.invariant)

pub returns-in-None-clause-pair : goal.returns-in-None-clause-pair
returns-in-None-clause-pair c =
    pair_past _ _ c.args.place c.self.invariant (rw c.deref.ensures.value at c.in-None.ensures.lookup.3) ∙ ap (λ these. slice_get (entries these) c.args.place) c.self.view_is

pub returns-in-None-clause-limits : goal.returns-in-None-clause-limits
returns-in-None-clause-limits c = subst IsWithinLimits c.self.view_is (limits _ _ c.self.invariant)
