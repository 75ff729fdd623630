use Rattle.std.proofs.Common.{◌≡◌, ◌++◌}
use Rattle.flow_queue.specs.Picking.{expiring}
use Rattle.flow_queue.specs.Queue.{views_of}
use Rattle.flow_queue.proofs.queue.choosing.list_expired.Given as goal

-- the numbers so far, and those of the files that are left
abbrev pub invariant-loop-held : goal.invariant-loop-held
invariant-loop-held l = record {
  next : (goal.iterator-loop-held).can_next l.held-iterator;
  finite : (goal.iterator-loop-held).is_finite l.held-iterator;
  numbers : l.list.items ++ expiring l.limits l.moment (views_of l.held-iterator) ≡ expiring l.limits l.moment (views_of l.files.items);
}
