use Rattle.std.proofs.Common.{◌≡◌, ◌++◌, drop}
use Rattle.std.specs.VecDeque.Iter.{deque_iter_rest}
use Rattle.flow_queue.specs.Ranked.{numbers_noted}
use Rattle.flow_queue.specs.Swapping.{resting_among}
use Rattle.flow_queue.proofs.queue.swapping.list_resting.Given as goal

-- the numbers so far, and those that are left
abbrev pub invariant-loop-note : goal.invariant-loop-note
invariant-loop-note l = record {
  next : (goal.iterator-loop-note).can_next l.note-iterator;
  finite : (goal.iterator-loop-note).is_finite l.note-iterator;
  numbers : l.list.items ++ drop l.left (resting_among l.files.items (numbers_noted (deque_iter_rest l.note-iterator))) ≡ drop l.skipped (resting_among l.files.items (numbers_noted l.notes.items));
}
