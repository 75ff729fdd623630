use Rattle.std.proofs.Common.{◌≡◌, ◌+◌}
use Rattle.std.specs.List.{sum_by}
use Rattle.flow_query.specs.Parts.{waiting_size}
use Rattle.flow_query.proofs.waiting.bytes_of.Given as goal

abbrev pub invariant-loop-waiting : goal.invariant-loop-waiting
invariant-loop-waiting l = l.bytes + sum_by waiting_size l.waiting-iterator ≡ sum_by waiting_size l.queue.items
