use Rattle.std.proofs.Common.{◌-◌, ◌∙◌, ap, sym, subst, is_some, arith}
use Rattle.std.specs.FinMap as finite
use Rattle.flowfile_record.specs.HeldPairs.{map_of, IsHeld}
use Rattle.flowfile_record.proofs.Held.{in_pairs, size_within, get_of_place, get_of_gap, remove-map_of, remove_held, remove_missing}
use Rattle.flowfile_record.proofs.attributes.Attributes.remove.Goals as goal

pub size-requires : goal.size-requires
size-requires c =
    let is = rw c.deref.ensures.value at c.in-Ok.ensures.found in
    let le = size_within _ _ c.remove-pair.result (in_pairs _ _ _ is) c.remove-pair.ensures.value in
    let summed = c.self.invariant.size_is in
    let most = c.self.invariant.within in
    omega arith

pub overflow_sub-self : goal.overflow_sub-self
overflow_sub-self c =
    let is = rw c.deref.ensures.value at c.in-Ok.ensures.found in
    let le = size_within _ _ c.remove-pair.result (in_pairs _ _ _ is) c.remove-pair.ensures.value in
    let summed = c.self.invariant.size_is in
    omega arith

pub invariant_of-self : goal.invariant_of-self
invariant_of-self c =
    let is = rw c.deref.ensures.value at c.in-Ok.ensures.found in
    let le = size_within _ _ c.remove-pair.result (in_pairs _ _ _ is) c.remove-pair.ensures.value in
    let summed = c.self.invariant.size_is in
    subst (λ pairs. IsHeld pairs (c.self.inside.size - c.size.result)) (sym c.remove-pair.ensures.items) (remove_held _ _ c.self.invariant _ _ is c.remove-pair.result _ (in_pairs _ _ _ is) c.remove-pair.ensures.value (omega arith))

pub returns-in-Ok-clause-was_there : goal.returns-in-Ok-clause-was_there
returns-in-Ok-clause-was_there c =
    let is = rw c.deref.ensures.value at c.in-Ok.ensures.found in
    ap is_some (sym (get_of_place _ _ c.self.invariant _ _ c.remove-pair.result is (in_pairs _ _ _ is) c.remove-pair.ensures.value) ∙ ap (λ these. finite.get these c.args.key.now) c.self.view_is)

pub returns-in-Ok-clause-after : goal.returns-in-Ok-clause-after
returns-in-Ok-clause-after c =
    let is = rw c.deref.ensures.value at c.in-Ok.ensures.found in
    ap map_of c.remove-pair.ensures.items ∙ sym (remove-map_of _ _ c.self.invariant _ _ is) ∙ ap (λ these. finite.remove these c.args.key.now) c.self.view_is

pub returns-in-Err-clause-was_there : goal.returns-in-Err-clause-was_there
returns-in-Err-clause-was_there c =
    let is = rw c.deref.ensures.value at c.in-Err.ensures.absent in
    ap is_some (sym (get_of_gap _ _ c.self.invariant _ _ is) ∙ ap (λ these. finite.get these c.args.key.now) c.self.view_is)

pub returns-in-Err-clause-after : goal.returns-in-Err-clause-after
returns-in-Err-clause-after c =
    let is = rw c.deref.ensures.value at c.in-Err.ensures.absent in
    remove_missing _ _ (ap (λ these. finite.get these c.args.key.now) (sym c.self.view_is) ∙ get_of_gap _ _ c.self.invariant _ _ is)
