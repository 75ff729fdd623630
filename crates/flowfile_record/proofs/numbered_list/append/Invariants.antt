use Rattle.std.proofs.Common.{◌≡◌, ◌≤◌, ◌+◌, ◌++◌, length, map, vec_capacity}
use Rattle.std.specs.Vec.Iter.{into_iter_items}
use Rattle.flowfile_record.specs.Slots.{slot_of}
use Rattle.flowfile_record.proofs.numbered_list.append.Given as goal

-- the elements so far have their slots, and there is capacity for those that are left
abbrev pub invariant-loop-item : goal.invariant-loop-item
invariant-loop-item g l =
    (l.slots.items ≡ l.initial.slots.items ++ map (slot_of g.T.Numbered.number) l.yielded)
    × (length l.slots.items + length (into_iter_items l.item-iterator) ≤ vec_capacity l.slots)
    × (vec_capacity l.initial.slots ≤ vec_capacity l.slots)
