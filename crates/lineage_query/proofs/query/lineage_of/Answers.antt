use Rattle.std.proofs.Common.{◌≡◌, ◌++◌, ◌≤◌, ℕ, List, refl, sym, ap, subst, ◌∙◌}
use lib.Dec.{eqb}
use Rattle.std.specs.List.{dedup}
use Rattle.std.specs.List.Sorted.{IsPermutation}
use Rattle.std.proofs.lemmas.List.Filters.{dedup_is}
use Rattle.machine_model.specs.Lineage.{HasTold, IsAncestor, IsDescendant, Lists}
use Rattle.lineage_query.specs.Told.{own_event_numbers, numbers_of_all}
use Rattle.lineage_query.specs.Work.{work}
use Rattle.lineage_query.proofs.Telling.{all-told, cost-1, cost-2, cost-3, cost-4, cost-5, lists-cost, told-lists}
use Rattle.lineage_query.proofs.query.lineage_of.Goals as goal

pub returns-clause-lineage : goal.returns-clause-lineage
returns-clause-lineage g c =
    let events = c.args.index.now in
    let file = c.args.number in
    let up = c.in_ok-ancestors.ancestors in
    let down = c.in_ok-descendants.descendants in
    let own = c.in_ok-tell.ensures.told ∙ ap (λ (l : List ℕ). l ++ own_event_numbers events file) c.new-events.ensures.items in
    let above = c.in_ok-tell_all.ensures.told ∙ ap (λ (l : List ℕ). c.tell.new.told.items ++ numbers_of_all events l) c.as_slice.ensures ∙ ap (λ (l : List ℕ). l ++ numbers_of_all events up) own in
    let all : c.tell_all-2.new.told.items ≡ all-told events file up down
    = c.in_ok-tell_all-2.ensures.told ∙ ap (λ (l : List ℕ). c.tell_all.new.told.items ++ numbers_of_all events l) c.as_slice-2.ensures ∙ ap (λ (l : List ℕ). l ++ numbers_of_all events down) above in
    let sorted = c.sort_unstable.new.self.items in
    let moved : IsPermutation (all-told events file up down) sorted = subst (λ (l : List ℕ). IsPermutation l sorted) all c.sort_unstable.ensures.permutation in
    let is : c.from.result ≡ dedup eqb sorted = c.from.ensures ∙ dedup_is eqb sorted c.dedup.new.self.items c.dedup.ensures.filtered in (
      refl,
      record {
        ancestors = c.in_ok-ancestors.ensures.ancestors;
        descendants = c.in_ok-descendants.ensures.descendants;
        told = subst (Lists (HasTold events file)) (sym is) (told-lists events file up down c.in_ok-ancestors.ensures.ancestors c.in_ok-descendants.ensures.descendants sorted moved c.sort_unstable.ensures.sorted);
      },
    )

pub returns-in_err-ancestors-clause-steps : goal.returns-in_err-ancestors-clause-steps
returns-in_err-ancestors-clause-steps g c = λ up down above below.
    cost-1 c.args.index.now c.args.number up down c.args.steps.now c.ancestors.new.steps (c.ancestors.ensures.steps up above)

pub returns-in_err-descendants-clause-steps : goal.returns-in_err-descendants-clause-steps
returns-in_err-descendants-clause-steps g c = λ up down above below.
    cost-2 c.args.index.now c.args.number up down c.args.steps.now c.ancestors.new.steps c.descendants.new.steps (c.ancestors.ensures.steps up above) (c.descendants.ensures.steps down below)

pub returns-in_err-tell-clause-steps : goal.returns-in_err-tell-clause-steps
returns-in_err-tell-clause-steps g c = λ up down above below.
    cost-3 c.args.index.now c.args.number up down c.args.steps.now c.ancestors.new.steps c.descendants.new.steps c.tell.new.steps (c.ancestors.ensures.steps up above) (c.descendants.ensures.steps down below)
    c.tell.ensures.steps

pub returns-in_err-tell_all-clause-steps : goal.returns-in_err-tell_all-clause-steps
returns-in_err-tell_all-clause-steps g c = λ up down above below.
    let events = c.args.index.now in
    let file = c.args.number in
    let over : work events c.as_slice.result.now ≤ work events up
    = subst (λ (l : List ℕ). work events l ≤ work events up) (sym c.as_slice.ensures) (lists-cost events (IsAncestor events file) c.in_ok-ancestors.ancestors up c.in_ok-ancestors.ensures.ancestors above) in
    cost-4 events file up down c.args.steps.now c.ancestors.new.steps c.descendants.new.steps c.tell.new.steps c.tell_all.new.steps c.as_slice.result.now (c.ancestors.ensures.steps up above)
    (c.descendants.ensures.steps down below) c.tell.ensures.steps c.tell_all.ensures.steps over

pub returns-in_err-tell_all-2-clause-steps : goal.returns-in_err-tell_all-2-clause-steps
returns-in_err-tell_all-2-clause-steps g c = λ up down above below.
    let events = c.args.index.now in
    let file = c.args.number in
    let over : work events c.as_slice.result.now ≤ work events up
    = subst (λ (l : List ℕ). work events l ≤ work events up) (sym c.as_slice.ensures) (lists-cost events (IsAncestor events file) c.in_ok-ancestors.ancestors up c.in_ok-ancestors.ensures.ancestors above) in
    let under : work events c.as_slice-2.result.now ≤ work events down
    = subst (λ (l : List ℕ). work events l ≤ work events down) (sym c.as_slice-2.ensures) (lists-cost events (IsDescendant events file) c.in_ok-descendants.descendants down c.in_ok-descendants.ensures.descendants below) in
    cost-5 events file up down c.args.steps.now c.ancestors.new.steps c.descendants.new.steps c.tell.new.steps c.tell_all.new.steps c.tell_all-2.new.steps c.as_slice.result.now c.as_slice-2.result.now
    (c.ancestors.ensures.steps up above) (c.descendants.ensures.steps down below) c.tell.ensures.steps c.tell_all.ensures.steps over c.tell_all-2.ensures.steps under

pub returns-clause-steps : goal.returns-clause-steps
returns-clause-steps g c = λ up down above below.
    let events = c.args.index.now in
    let file = c.args.number in
    let over : work events c.as_slice.result.now ≤ work events up
    = subst (λ (l : List ℕ). work events l ≤ work events up) (sym c.as_slice.ensures) (lists-cost events (IsAncestor events file) c.in_ok-ancestors.ancestors up c.in_ok-ancestors.ensures.ancestors above) in
    let under : work events c.as_slice-2.result.now ≤ work events down
    = subst (λ (l : List ℕ). work events l ≤ work events down) (sym c.as_slice-2.ensures) (lists-cost events (IsDescendant events file) c.in_ok-descendants.descendants down c.in_ok-descendants.ensures.descendants below) in
    cost-5 events file up down c.args.steps.now c.ancestors.new.steps c.descendants.new.steps c.tell.new.steps c.tell_all.new.steps c.tell_all-2.new.steps c.as_slice.result.now c.as_slice-2.result.now
    (c.ancestors.ensures.steps up above) (c.descendants.ensures.steps down below) c.tell.ensures.steps c.tell_all.ensures.steps over c.tell_all-2.ensures.steps under
