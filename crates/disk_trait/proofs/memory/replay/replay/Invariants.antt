use Rattle.std.proofs.Common.{◌≡◌, take}
use Rattle.disk_trait.specs.Memory.{durable, state_after}
use Rattle.disk_trait.proofs.memory.replay.replay.Given as goal

abbrev pub invariant-loop-call : goal.invariant-loop-call
invariant-loop-call l = l.bytes.items ≡ (state_after l.name (durable l.first) (take l.call-index l.calls)).held
