use Rattle.std.proofs.Common.{◌-◌, None, is_some, ◌∙◌, ap, sym, arith}
use Rattle.std.specs.Cmp.{nat_cmp_total}
use Rattle.std.specs.FinMap.{nat_cmp-IsAntisymmetric}
use Rattle.flowfile_record.specs.NumberedItems.{item_of, without_item}
use Rattle.flowfile_record.specs.Slots.{number_and_item}
use Rattle.flowfile_record.proofs.Search.{put_over}
use Rattle.flowfile_record.proofs.Numbers.{slots_at, slots_gap, taken_some, without_none, items-take, slots-take}
use Rattle.flowfile_record.proofs.numbered_list.NumberedList.take.Goals as goal

pub overflow_sub-self : goal.overflow_sub-self
overflow_sub-self g c =
    let is = rw c.deref.ensures.value at c.in-Ok.ensures.found in
    let at = slots_at g.T.Numbered.number _ _ c.self.invariant.0 c.args.number c.in-Ok.place c.index_mut.result.now is c.index_mut.ensures.value in
    let some = ap is_some (at ∙ sym c.take-item.ensures.value) ∙ sym c.is_some.ensures ∙ c.if-is_some.true in
    taken_some g.T.Numbered.number _ _ c.self.invariant.0 c.args.number some

pub invariant_of-self : goal.invariant_of-self
invariant_of-self g c =
    let is = rw c.deref.ensures.value at c.in-Ok.ensures.found in
    let slot = c.index_mut.result.now in
    let at = slots_at g.T.Numbered.number _ _ c.self.invariant.0 c.args.number c.in-Ok.place slot is c.index_mut.ensures.value in
    let some = ap is_some (at ∙ sym c.take-item.ensures.value) ∙ sym c.is_some.ensures ∙ c.if-is_some.true in
    let more = taken_some g.T.Numbered.number _ _ c.self.invariant.0 c.args.number some in
    let made = put_over nat_cmp_total nat_cmp-IsAntisymmetric number_and_item c.self.inside.slots.items c.args.number c.in-Ok.place slot _ None is c.index_mut.ensures.value (ap (λ o. (slot.number, o)) c.take-item.ensures.after) in
    (slots-take g.T.Numbered.number _ _ c.self.invariant.0 _ c.args.number made (c.self.inside.held - 1) some (omega arith), omega (arith, more, c.self.invariant.1))

pub returns-then-is_some-clause-item : goal.returns-then-is_some-clause-item
returns-then-is_some-clause-item g c =
    let is = rw c.deref.ensures.value at c.in-Ok.ensures.found in
    let at = slots_at g.T.Numbered.number _ _ c.self.invariant.0 c.args.number c.in-Ok.place c.index_mut.result.now is c.index_mut.ensures.value in
    c.take-item.ensures.value ∙ sym at ∙ ap (λ v. item_of g.T.Numbered.number c.args.number v.items) c.self.view_is

pub returns-then-is_some-clause-items : goal.returns-then-is_some-clause-items
returns-then-is_some-clause-items g c =
    let is = rw c.deref.ensures.value at c.in-Ok.ensures.found in
    let slot = c.index_mut.result.now in
    let made = put_over nat_cmp_total nat_cmp-IsAntisymmetric number_and_item c.self.inside.slots.items c.args.number c.in-Ok.place slot _ None is c.index_mut.ensures.value (ap (λ o. (slot.number, o)) c.take-item.ensures.after) in
    items-take g.T.Numbered.number _ _ c.self.invariant.0 _ c.args.number made ∙ ap (λ v. without_item g.T.Numbered.number c.args.number v.items) c.self.view_is

pub returns-else-is_some-clause-item : goal.returns-else-is_some-clause-item
returns-else-is_some-clause-item g c =
    let is = rw c.deref.ensures.value at c.in-Ok.ensures.found in
    let at = slots_at g.T.Numbered.number _ _ c.self.invariant.0 c.args.number c.in-Ok.place c.index_mut.result.now is c.index_mut.ensures.value in
    c.take-item.ensures.value ∙ sym at ∙ ap (λ v. item_of g.T.Numbered.number c.args.number v.items) c.self.view_is

pub returns-else-is_some-clause-items : goal.returns-else-is_some-clause-items
returns-else-is_some-clause-items g c =
    let is = rw c.deref.ensures.value at c.in-Ok.ensures.found in
    let slot = c.index_mut.result.now in
    let made = put_over nat_cmp_total nat_cmp-IsAntisymmetric number_and_item c.self.inside.slots.items c.args.number c.in-Ok.place slot _ None is c.index_mut.ensures.value (ap (λ o. (slot.number, o)) c.take-item.ensures.after) in
    items-take g.T.Numbered.number _ _ c.self.invariant.0 _ c.args.number made ∙ ap (λ v. without_item g.T.Numbered.number c.args.number v.items) c.self.view_is

pub returns-in-Err-clause-item : goal.returns-in-Err-clause-item
returns-in-Err-clause-item g c =
    let is = rw c.deref.ensures.value at c.in-Err.ensures.absent in
    sym (slots_gap g.T.Numbered.number _ _ c.self.invariant.0 c.args.number c.in-Err.field-0 is) ∙ ap (λ v. item_of g.T.Numbered.number c.args.number v.items) c.self.view_is

pub returns-in-Err-clause-items : goal.returns-in-Err-clause-items
returns-in-Err-clause-items g c =
    let number = g.T.Numbered.number in
    let is = rw c.deref.ensures.value at c.in-Err.ensures.absent in
    let none = ap (λ v. item_of number c.args.number v.items) (sym c.self.view_is) ∙ slots_gap number _ _ c.self.invariant.0 c.args.number c.in-Err.field-0 is in
    sym (without_none number c.args.number c.args.self.now.items none)
