use Rattle.std.proofs.Common.{◌≡◌, Bool, true, false, not, Option, None, Some, is_some, map, refl, ◌∙◌, ap, sym}
use Rattle.std.specs.Cmp.{nat_cmp_total}
use Rattle.std.specs.FinMap.{nat_cmp-IsAntisymmetric, put}
use Rattle.std.specs.Ordering.{nat_cmp}
use Rattle.flowfile_record.specs.NumberedItems.{item_of, with_replaced}
use Rattle.flowfile_record.specs.Slots.{number_and_item, items_of}
use Rattle.flowfile_record.proofs.Search.{put_over}
use Rattle.flowfile_record.proofs.Numbers.{slots_at, slots_gap, replaced_absent, items-replace, slots-replace}
use Rattle.flowfile_record.proofs.numbered_list.NumberedList.replace.Goals as goal

none_is : {A : Type 0} (o : Option A) (none : Bool) → is_some o ≡ not none → none ≡ true → o ≡ None
none_is None none told is = refl
none_is (Some x) none told is = let no = told ∙ ap not is in cc

some_is : {A : Type 0} (o : Option A) (none : Bool) → is_some o ≡ not none → none ≡ false → is_some o ≡ true
some_is o none told isnt = told ∙ ap not isnt

pub returns-then-is_none-clause-item : goal.returns-then-is_none-clause-item
returns-then-is_none-clause-item g c =
    let number = g.T.Numbered.number in
    let is = rw c.deref.ensures.value at c.in-Ok.ensures.found in
    let at = slots_at number _ _ c.self.invariant.0 c.number.result c.in-Ok.place c.index.result.now is c.index.ensures in
    sym (none_is _ _ c.is_none.ensures c.if-is_none.true) ∙ sym at ∙ ap (λ v. item_of number c.number.result v.items) c.self.view_is ∙ ap (λ n. item_of number n c.args.self.now.items) c.number.ensures

pub returns-then-is_none-clause-items : goal.returns-then-is_none-clause-items
returns-then-is_none-clause-items g c =
    let number = g.T.Numbered.number in
    let is = rw c.deref.ensures.value at c.in-Ok.ensures.found in
    let at = slots_at number _ _ c.self.invariant.0 c.number.result c.in-Ok.place c.index.result.now is c.index.ensures in
    sym (replaced_absent number c.args.item c.args.self.now.items (ap (λ n. item_of number n c.args.self.now.items) (sym c.number.ensures) ∙ ap (λ v. item_of number c.number.result v.items) (sym c.self.view_is) ∙ at
    ∙ none_is _ _ c.is_none.ensures c.if-is_none.true))

pub invariant_of-self : goal.invariant_of-self
invariant_of-self g c =
    let number = g.T.Numbered.number in
    let is = rw c.deref.ensures.value at c.in-Ok.ensures.found in
    let slot = c.index_mut.result.now in
    let at = slots_at number _ _ c.self.invariant.0 c.number.result c.in-Ok.place c.index.result.now is c.index.ensures in
    let some = ap is_some (ap (λ n. item_of number n (items_of c.self.inside.slots.items)) (sym c.number.ensures) ∙ at) ∙ some_is _ _ c.is_none.ensures c.if-is_none.false in
    let made = put_over nat_cmp_total nat_cmp-IsAntisymmetric number_and_item c.self.inside.slots.items c.number.result c.in-Ok.place slot _ (Some c.args.item) is c.index_mut.ensures.value (ap (λ o. (slot.number, o)) c.replace.ensures.after) in
    (slots-replace number _ _ c.self.invariant.0 _ c.args.item (made ∙ ap (λ n. put nat_cmp n (Some c.args.item) (map number_and_item c.self.inside.slots.items)) c.number.ensures) some, c.self.invariant.1)

pub returns-else-is_none-clause-item : goal.returns-else-is_none-clause-item
returns-else-is_none-clause-item g c =
    let number = g.T.Numbered.number in
    let is = rw c.deref.ensures.value at c.in-Ok.ensures.found in
    let at = slots_at number _ _ c.self.invariant.0 c.number.result c.in-Ok.place c.index_mut.result.now is c.index_mut.ensures.value in
    c.replace.ensures.value ∙ sym at ∙ ap (λ v. item_of number c.number.result v.items) c.self.view_is ∙ ap (λ n. item_of number n c.args.self.now.items) c.number.ensures

pub returns-else-is_none-clause-items : goal.returns-else-is_none-clause-items
returns-else-is_none-clause-items g c =
    let number = g.T.Numbered.number in
    let is = rw c.deref.ensures.value at c.in-Ok.ensures.found in
    let slot = c.index_mut.result.now in
    let at = slots_at number _ _ c.self.invariant.0 c.number.result c.in-Ok.place c.index.result.now is c.index.ensures in
    let some = ap is_some (ap (λ n. item_of number n (items_of c.self.inside.slots.items)) (sym c.number.ensures) ∙ at) ∙ some_is _ _ c.is_none.ensures c.if-is_none.false in
    let made = put_over nat_cmp_total nat_cmp-IsAntisymmetric number_and_item c.self.inside.slots.items c.number.result c.in-Ok.place slot _ (Some c.args.item) is c.index_mut.ensures.value (ap (λ o. (slot.number, o)) c.replace.ensures.after) in
    items-replace number _ _ c.self.invariant.0 _ c.args.item (made ∙ ap (λ n. put nat_cmp n (Some c.args.item) (map number_and_item c.self.inside.slots.items)) c.number.ensures) some ∙ ap (λ v. with_replaced number c.args.item v.items) c.self.view_is

pub returns-in-Err-clause-item : goal.returns-in-Err-clause-item
returns-in-Err-clause-item g c =
    let number = g.T.Numbered.number in
    let is = rw c.deref.ensures.value at c.in-Err.ensures.absent in
    sym (slots_gap number _ _ c.self.invariant.0 c.number.result c.in-Err.field-0 is) ∙ ap (λ v. item_of number c.number.result v.items) c.self.view_is ∙ ap (λ n. item_of number n c.args.self.now.items) c.number.ensures

pub returns-in-Err-clause-items : goal.returns-in-Err-clause-items
returns-in-Err-clause-items g c =
    let number = g.T.Numbered.number in
    let is = rw c.deref.ensures.value at c.in-Err.ensures.absent in
    sym (replaced_absent number c.args.item c.args.self.now.items (ap (λ n. item_of number n c.args.self.now.items) (sym c.number.ensures) ∙ ap (λ v. item_of number c.number.result v.items) (sym c.self.view_is)
    ∙ slots_gap number _ _ c.self.invariant.0 c.number.result c.in-Err.field-0 is))
