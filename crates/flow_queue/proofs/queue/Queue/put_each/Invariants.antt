use Rattle.std.proofs.Common.{◌≡◌, ◌≤◌, length}
use Rattle.std.specs.Vec.Iter.{into_iter_items}
use Rattle.flow_queue.specs.Entering.{MayComeTogether, queue_joined_by}
use Rattle.flow_queue.proofs.queue.Queue.put_each.Given as goal

-- the files that are left may come, and make the queue what it has to be
abbrev pub invariant-loop-file : goal.invariant-loop-file
invariant-loop-file l = record {
  room : length (into_iter_items l.file-iterator) ≤ l.self.spare;
  may : MayComeTogether l.self.files (into_iter_items l.file-iterator);
  queue : queue_joined_by (into_iter_items l.file-iterator) l.self ≡ queue_joined_by l.fn.files.items l.fn.self;
}
