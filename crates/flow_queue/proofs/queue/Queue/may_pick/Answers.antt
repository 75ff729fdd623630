use Rattle.std.proofs.Common.{sym, ap, ◌∙◌, arith}
use Rattle.std.proofs.lemmas.Bool.{ltb-false}
use Rattle.machine_model.specs.declared.kind.TakeRule.TheVariants.{Bin, Defragment}
use Rattle.flow_queue.specs.Inside.{queue_in}
use Rattle.flow_queue.specs.Queue.{picked}
use Rattle.flow_queue.proofs.NoWhole.{picks-no-bin, picks-none-whole}
use Rattle.flow_queue.proofs.queue.Queue.may_pick.Goals as goal

pub returns-else-from-len : goal.returns-else-from-len
returns-else-from-len c fails moment =
    let queue = c.self.inside in
    let within = ltb-false c.from-else-from-len.result queue.bytes fails in
    ap (λ rule. picked rule moment c.args.self.now) c.in-Bin.is
    ∙ ap (λ q. picked (Bin c.in-Bin.min c.in-Bin.max) moment q) (sym c.self.view_is)
    ∙ picks-no-bin (queue_in queue) moment c.in-Bin.min c.in-Bin.max (omega (arith, c.if-from-len.false, c.len.ensures.len, c.from.ensures))
    (omega (arith, within, c.from-else-from-len.ensures, c.self.invariant.files.sum))

pub returns-in-Defragment : goal.returns-in-Defragment
returns-in-Defragment c fails moment =
    let queue = c.self.inside in
    let none = ltb-false 0 queue.counts.enough (sym c.may_have_whole.ensures ∙ fails) in
    ap (λ rule. picked rule moment c.args.self.now) c.in-Defragment.is
    ∙ ap (λ q. picked Defragment moment q) (sym c.self.view_is)
    ∙ picks-none-whole (queue_in queue) moment queue.counts c.self.invariant.counts (omega (arith, none))
