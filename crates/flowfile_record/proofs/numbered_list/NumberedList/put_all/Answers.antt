use Rattle.std.proofs.Common.{◌≡◌, ◌+◌, ◌++◌, length, map, ◌∙◌, ap, sym, subst, arith}
use Rattle.std.specs.List.Sorted.{IsPermutation}
use Rattle.flowfile_record.specs.NumberedItems.{with_items, AreNew}
use Rattle.flowfile_record.specs.Slots.{slot_of, AreSlots}
use Rattle.flowfile_record.proofs.Numbers.{length-swept, items-joined, slots-joined}
use Rattle.flowfile_record.proofs.numbered_list.NumberedList.put_all.Goals as goal

pub append-requires : goal.append-requires
append-requires g c =
    let many = ap length c.sweep.ensures.slots in
    let held = length-swept (λ _. 0) c.self.inside.slots.items in
    let some = c.requires.room in
    omega (arith, many, held, some, c.self.invariant.0.count, c.self.invariant.1, c.sweep.ensures.capacity, ap (λ v. v.room) c.self.view_is)

pub invariant_of-self : goal.invariant_of-self
invariant_of-self g c =
    let number = g.T.Numbered.number in
    let new = subst (λ v. AreNew number c.args.items.items v.items) (sym c.self.view_is) c.requires.new in
    let moved = subst (λ l. IsPermutation l c.sort.new.slots.items) (c.append.ensures.slots ∙ ap (λ l. l ++ map (slot_of number) c.args.items.items) c.sweep.ensures.slots) c.sort.ensures.permutation in
    let count : c.len-count.result ≡ length c.args.items.items = c.len-count.ensures ∙ c.args.items.ok.0 in
    let are = slots-joined number c.self.inside.slots.items c.sort.new.slots.items c.self.inside.held c.args.items.items c.self.invariant.0 new moved c.sort.ensures.sorted in (
      subst (λ n. AreSlots number c.sort.new.slots.items (c.self.inside.held + n)) (sym count) are,
      omega (arith, count, c.requires.room, c.self.invariant.1, c.sweep.ensures.capacity, c.append.ensures.capacity, c.sort.ensures.capacity, ap (λ v. v.room) c.self.view_is),
    )

pub returns-clause-items : goal.returns-clause-items
returns-clause-items g c =
    let number = g.T.Numbered.number in
    let new = subst (λ v. AreNew number c.args.items.items v.items) (sym c.self.view_is) c.requires.new in
    let moved = subst (λ l. IsPermutation l c.sort.new.slots.items) (c.append.ensures.slots ∙ ap (λ l. l ++ map (slot_of number) c.args.items.items) c.sweep.ensures.slots) c.sort.ensures.permutation in
    items-joined number c.self.inside.slots.items c.sort.new.slots.items c.self.inside.held c.args.items.items c.self.invariant.0 new moved c.sort.ensures.sorted
    ∙ ap (λ v. with_items number c.args.items.items v.items) c.self.view_is
