use Rattle.std.proofs.Common.{◌≡◌, false, length, get_or, refl, sym, ap, subst, ◌∙◌, arith}
use Rattle.std.proofs.lemmas.Option.{slice_get_read, slice_get_within}
use Rattle.machine_model.specs.Quiet.{is_full}
use Rattle.flow_queue.specs.Queue.{queue_as_seen}
use Rattle.engine_queues.specs.Linked.{starts_at}
use Rattle.engine_queues.proofs.Walked.{HasRoom, is-free, is-held, walked-here, walked-next, walked-within}
use Rattle.engine_queues.proofs.queues.Queues.is_held_back.Goals as goal

pub index-requires : goal.index-requires
index-requires c =
    let flow = c.args.flow.now in
    let n = c.loop-place.place-index in
    let walk = c.outgoing-places.result.now in
    let walked = walked-here (starts_at c.args.processor) flow.connections walk n c.outgoing-places.ensures c.loop-place-test.true in
    omega (arith, walked-within flow c.args.self.now c.requires.queues (starts_at c.args.processor) n (get_or walk n 0) walked, ap length c.self.view_is, c.self.inside.list.ok.0)

pub returns-then-is_full : goal.returns-then-is_full
returns-then-is_full c p =
    let flow = c.args.flow.now in
    let queues = c.args.self.now in
    let n = c.loop-place.place-index in
    let walk = c.outgoing-places.result.now in
    let place = get_or walk n 0 in
    let queue = c.index.result.now in
    let walked = walked-here (starts_at c.args.processor) flow.connections walk n c.outgoing-places.ensures c.loop-place-test.true in
    let there = slice_get_read queues (length queues) place queue refl (walked-within flow queues c.requires.queues (starts_at c.args.processor) n place walked) (c.index.ensures ∙ ap (λ l. get_or l place queue) c.self.view_is) in
    sym (is-held flow queues c.requires.queues c.args.processor n place queue p walked there (sym c.is_full.ensures ∙ c.if-is_full.true))

pub loop-place-preserved : goal.loop-place-preserved
loop-place-preserved c =
    let flow = c.args.flow.now in
    let queues = c.args.self.now in
    let n = c.loop-place.place-index in
    let walk = c.outgoing-places.result.now in
    let place = get_or walk n 0 in
    let found = c.index.result.now in
    let walked = walked-here (starts_at c.args.processor) flow.connections walk n c.outgoing-places.ensures c.loop-place-test.true in
    let there = slice_get_read queues (length queues) place found refl (walked-within flow queues c.requires.queues (starts_at c.args.processor) n place walked) (c.index.ensures ∙ ap (λ l. get_or l place found) c.self.view_is) in
    walked-next (starts_at c.args.processor) flow.connections (HasRoom queues) n place walked c.loop-place.invariant
    (λ queue at.
    let same : found ≡ queue = cc (there, at) in
    subst (λ q. is_full q.limits (queue_as_seen q) ≡ false) same (sym c.is_full.ensures ∙ c.if-is_full.false))

pub returns : goal.returns
returns c p =
    let flow = c.args.flow.now in
    sym (is-free flow c.args.self.now c.requires.queues c.args.processor p
    (λ k other at. c.loop-place.invariant k other (omega (arith, slice_get_within _ k other at, ap length c.outgoing-places.ensures, c.loop-place-test.false)) at))
