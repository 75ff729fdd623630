use Rattle.std.proofs.Common.{◌≤◌, take}
use Rattle.disk_trait.specs.MemoryStop.{IsSyncedCount}
use Rattle.disk_trait.proofs.memory.replay.synced_count.Given as goal

abbrev pub invariant-loop-i : goal.invariant-loop-i
invariant-loop-i l = record { within : l.count ≤ l.i; counted : IsSyncedCount (take l.i l.calls) l.count }
