use Rattle.std.proofs.Common.{◌≡◌, true, drop}
use Rattle.machine_model.specs.Files.{are_distinct}
use Rattle.flow_queue.specs.Leaving.{queue_left_by}
use Rattle.flow_queue.proofs.Swapped.{AreThere}
use Rattle.flow_queue.proofs.queue.Queue.leave_each.Given as goal

-- the files that are left may leave too, and make the queue what it has to be
abbrev pub invariant-loop-number : goal.invariant-loop-number
invariant-loop-number l = record {
  there : AreThere l.self.files (drop l.number-index l.numbers);
  distinct : are_distinct (drop l.number-index l.numbers) ≡ true;
  queue : queue_left_by (drop l.number-index l.numbers) l.self ≡ queue_left_by l.numbers l.fn.self;
}
