use Rattle.std.proofs.Common.{sym, ◌∙◌, arith}
use Rattle.disk_trait.proofs.DiskCalls.{held-durable}
use Rattle.disk_trait.proofs.DiskStops.{walk_fits, walk_held}
use Rattle.disk_trait.proofs.memory.replay.replay.Goals as goal

pub loop-call-init : goal.loop-call-init
loop-call-init c = c.in_ok-bytes.ensures.items ∙ sym (held-durable c.args.first.now)

pub apply-requires : goal.apply-requires
apply-requires c =
    walk_fits c.args.name c.args.first.now c.args.calls.now c.loop-call.call-index c.call-item.result c.loop-call.bytes.items (omega arith) c.call-item.is c.loop-call.invariant
    (c.requires c.loop-call.call-index (omega arith))

pub loop-call-preserved : goal.loop-call-preserved
loop-call-preserved c =
    walk_held c.args.name c.args.first.now c.args.calls.now c.loop-call.call-index c.call-item.result c.loop-call.bytes.items c.apply.new.bytes.items (omega arith) c.call-item.is c.loop-call.invariant
    c.in_ok-apply.ensures
