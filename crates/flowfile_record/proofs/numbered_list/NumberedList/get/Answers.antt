use Rattle.std.proofs.Common.{◌∙◌, ap, sym}
use Rattle.flowfile_record.specs.NumberedItems.{item_of}
use Rattle.flowfile_record.proofs.Numbers.{slots_at, slots_gap}
use Rattle.flowfile_record.proofs.numbered_list.NumberedList.get.Goals as goal

pub returns-in-Ok : goal.returns-in-Ok
returns-in-Ok g c =
    let is = rw c.deref.ensures.value at c.in-Ok.ensures.found in
    c.as_ref.ensures.value ∙ sym (slots_at g.T.Numbered.number _ _ c.self.invariant.0 c.args.number c.in-Ok.place c.index.result.now is c.index.ensures) ∙ ap (λ v. item_of g.T.Numbered.number c.args.number v.items) c.self.view_is

pub returns-in-Err : goal.returns-in-Err
returns-in-Err g c =
    let is = rw c.deref.ensures.value at c.in-Err.ensures.absent in
    sym (slots_gap g.T.Numbered.number _ _ c.self.invariant.0 c.args.number c.in-Err.field-0 is) ∙ ap (λ v. item_of g.T.Numbered.number c.args.number v.items) c.self.view_is
