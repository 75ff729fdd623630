use Rattle.std.proofs.Common.{◌≡◌}
use Rattle.std.specs.Prelude.{slice_get}
use Rattle.std.specs.VecDeque.Iter.{deque_iter_rest}
use Rattle.flow_queue.specs.Ranked.{eligible_among}
use Rattle.flow_queue.proofs.queue.ranked.best_of.Given as goal

-- the first of the files of the numbers that are left
abbrev pub invariant-loop-note : goal.invariant-loop-note
invariant-loop-note l = record {
  next : (goal.iterator-loop-note).can_next l.note-iterator;
  finite : (goal.iterator-loop-note).is_finite l.note-iterator;
  first : slice_get (eligible_among l.limits l.moment l.files.items (deque_iter_rest l.note-iterator)) 0 ≡ slice_get (eligible_among l.limits l.moment l.files.items l.by_rank.items) 0;
}
