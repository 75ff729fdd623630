use Rattle.std.proofs.Common.{◌≡◌, List, map, IsTrue, None, ◌∙◌, ap, sym, subst, arith}
use Rattle.std.specs.Ordering.{nat_cmp}
use Rattle.std.specs.FinMap.{is_sorted}
use Rattle.flowfile_record.specs.declared.numbered_list.Slot.{Slot}
use Rattle.flowfile_record.specs.NumberedItems.{item_of, with_item}
use Rattle.flowfile_record.specs.Slots.{number_and_item, items_of}
use Rattle.flowfile_record.proofs.Numbers.{items-put, slots-put}
use Rattle.flowfile_record.proofs.numbered_list.NumberedList.put.Goals as goal

pub place_of-place-requires : goal.place_of-place-requires
place_of-place-requires g c =
    let are = c.free_place.ensures.slots g.T.Numbered.number _ c.self.invariant.0 in
    subst (λ (l : List (Slot g.row.T.Denot)). IsTrue (is_sorted nat_cmp (map number_and_item l))) (sym c.deref.ensures.value) are.ascending

pub overflow_add-self : goal.overflow_add-self
overflow_add-self g c = let some = c.requires.room in omega (arith, c.self.invariant.1, c.self.inside.slots.ok, ap (λ v. v.room) c.self.view_is)

pub invariant_of-self : goal.invariant_of-self
invariant_of-self g c =
    let number = g.T.Numbered.number in
    let are = c.free_place.ensures.slots number _ c.self.invariant.0 in
    let none : item_of number (number c.args.item) (items_of c.free_place.new.slots.items) ≡ None =
    ap (item_of number (number c.args.item)) c.free_place.ensures.items ∙ ap (λ v. item_of number (number c.args.item) v.items) c.self.view_is ∙ c.requires.new in
    (slots-put number _ _ are _ c.args.item _ c.number-number.ensures c.fill.ensures.slots none, omega (arith, c.self.invariant.1, c.requires.room, ap (λ v. v.room) c.self.view_is, c.free_place.ensures.capacity, c.fill.ensures.capacity))

pub returns-clause-items : goal.returns-clause-items
returns-clause-items g c =
    let number = g.T.Numbered.number in
    let are = c.free_place.ensures.slots number _ c.self.invariant.0 in
    let none : item_of number (number c.args.item) (items_of c.free_place.new.slots.items) ≡ None =
    ap (item_of number (number c.args.item)) c.free_place.ensures.items ∙ ap (λ v. item_of number (number c.args.item) v.items) c.self.view_is ∙ c.requires.new in
    items-put number _ _ are c.fill.new.slots.items c.args.item _ c.number-number.ensures c.fill.ensures.slots none
    ∙ ap (with_item number c.args.item) c.free_place.ensures.items ∙ ap (λ v. with_item number c.args.item v.items) c.self.view_is
