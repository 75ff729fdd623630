use Rattle.std.proofs.Common.{◌≡◌, length}
use Rattle.flowfile_record.specs.Slots.{items_of}
use Rattle.flowfile_record.proofs.numbered_list.NumberedIterIterator.next.Given as goal

-- only empty places were passed over
abbrev pub invariant-loop-slot : goal.invariant-loop-slot
invariant-loop-slot g l = items_of l.self-inside.slots.now ≡ l.fn.self

abbrev pub decreases-loop-slot : goal.decreases-loop-slot
decreases-loop-slot g l = length l.self-inside.slots.now
