use Rattle.std.proofs.Common.{◌+◌, ◌≤◌}
use Rattle.content_repo.specs.Slots.{held_in}
use Rattle.content_repo.specs.declared.slot_set.TheConstants.{SLOTS}
use Rattle.bench_parts.proofs.appends.append_all.Given as goal

abbrev pub invariant-loop-number : goal.invariant-loop-number
invariant-loop-number l = held_in l.content ≤ SLOTS + l.number
