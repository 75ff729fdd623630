use Rattle.std.proofs.Common.{◌+◌, ◌<◌, sym, ◌∙◌, ap, subst, arith}
use Rattle.std.specs.Prelude.{All}
use Rattle.std.proofs.lemmas.List.Elements.{All-weaker}
use Rattle.flow_queue.specs.declared.held.Held.{Held}
use Rattle.flow_queue.specs.Queue.{queue_with_file}
use Rattle.flow_queue.proofs.ForCallers.{All-with_file}
use Rattle.bench_flows.proofs.queues.queue_of.Goals as goal

pub loop-place-preserved : goal.loop-place-preserved
loop-place-preserved c =
    let file = c.file.result in
    let place = c.loop-place.place in
    let Before : Held → Type 0 = λ held. (held.file.number < place + 1) × (held.file.arrival < place + 1) in
    let earlier = All-weaker (λ (held : Held). (held.file.number < place) × (held.file.arrival < place)) Before (λ held h. (omega arith, omega arith)) c.loop-place.queue.files c.loop-place.invariant in
    let here : (file.number < place + 1) × (file.arrival < place + 1) = (omega (arith, c.file.ensures.number), omega (arith, c.file.ensures.arrival)) in
    subst (All Before) (sym (ap (λ q. q.files) c.put.ensures ∙ ap (λ q. queue_with_file file q.files) c.reserve.ensures.same))
    (All-with_file Before file c.loop-place.queue.files here earlier)
