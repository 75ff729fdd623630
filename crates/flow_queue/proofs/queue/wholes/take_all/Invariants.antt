use Rattle.std.proofs.Common.{◌≡◌}
use Rattle.flow_queue.specs.Fragments.{part_numbers_from}
use Rattle.flow_queue.proofs.Parts.{gone_on}
use Rattle.flow_queue.proofs.queue.wholes.take_all.Given as goal

-- the numbers so far are the first of all of them
abbrev pub invariant-loop-place : goal.invariant-loop-place
invariant-loop-place l = gone_on l.numbers l.whole l.place l.list.items ≡ part_numbers_from l.numbers l.whole 0 l.whole.count
