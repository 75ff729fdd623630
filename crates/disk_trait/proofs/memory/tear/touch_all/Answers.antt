use Rattle.std.proofs.Common.{sym, ◌∙◌, ap, ◌||◌, ◌<◌, length, arith}
use Rattle.disk_trait.specs.MemoryStop.{touches}
use Rattle.disk_trait.proofs.DiskStops.{touched_none, touched_step}
use Rattle.disk_trait.proofs.memory.tear.touch_all.Goals as goal

pub loop-call-init : goal.loop-call-init
loop-call-init c = λ i lt. c.requires i lt ∙ sym (touched_none c.args.name i)

pub loop-call-preserved : goal.loop-call-preserved
loop-call-preserved c = λ i lt.
    let within : i < length c.loop-call.marks = omega arith in
    c.touch.ensures i within ∙ ap (λ b. touches c.args.name c.call-item.result i || b) (c.loop-call.invariant i within)
    ∙ sym (touched_step c.args.name c.args.calls.now c.loop-call.call-index c.call-item.result i (omega arith) c.call-item.is)
