use Rattle.std.proofs.Common.{◌≡◌, ◌≤◌, ◌++◌, length}
use Rattle.std.specs.VecDeque.Iter.{deque_iter_rest}
use Rattle.flow_queue.specs.Picking.{views_at}
use Rattle.flow_queue.specs.Ranked.{eligible_among}
use Rattle.flow_queue.proofs.queue.ranked.first_eligible.Given as goal

-- the files so far, and those of the numbers that are left
abbrev pub invariant-loop-note : goal.invariant-loop-note
invariant-loop-note l = record {
  next : (goal.iterator-loop-note).can_next l.note-iterator;
  finite : (goal.iterator-loop-note).is_finite l.note-iterator;
  most : length l.list.items ≤ l.most;
  files : views_at l.list.items ++ eligible_among l.limits l.moment l.files.items (deque_iter_rest l.note-iterator) ≡ eligible_among l.limits l.moment l.files.items l.by_rank.items;
}
