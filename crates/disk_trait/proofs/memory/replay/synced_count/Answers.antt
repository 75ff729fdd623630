use Rattle.std.proofs.Common.{arith}
use Rattle.disk_trait.proofs.DiskStops.{counted_none, count_sync, count_change}
use Rattle.disk_trait.proofs.memory.replay.synced_count.Goals.{in-Sync, in_default}
use Rattle.disk_trait.proofs.memory.replay.synced_count.Goals as goal

pub loop-i-init : goal.loop-i-init
loop-i-init c = record { within = omega arith; counted = counted_none }

pub loop-i-preserved : goal.loop-i-preserved
loop-i-preserved c = elim c.match-call.branch [
  | in-Sync w ↦ record {
    within = omega (arith, w.count-is);
    counted = count_sync c.args.calls.now c.loop-i.i c.match-call.count c.index-calls-i.result (omega arith) c.index-calls-i.is w.in-Sync.is w.count-is;
  }
  | in_default w ↦ record {
    within = omega (arith, w.count-is, c.loop-i.invariant.within);
    counted = count_change c.args.calls.now c.loop-i.i c.match-call.count c.loop-i.count c.index-calls-i.result (omega arith) c.index-calls-i.is w.in_default.not-Sync w.count-is c.loop-i.invariant.within c.loop-i.invariant.counted;
  }
]
