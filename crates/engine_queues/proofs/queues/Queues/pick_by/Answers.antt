use Rattle.std.proofs.Common.{length, get_or, refl, sym, ap, ◌∙◌, arith}
use Rattle.std.proofs.lemmas.Option.{slice_get_read, slice_get_within}
use Rattle.engine_queues.specs.Linked.{ends_at}
use Rattle.engine_queues.specs.Picking.{picked_from}
use Rattle.engine_queues.proofs.Due.{OwesNothing, picked-here}
use Rattle.engine_queues.proofs.Walked.{first-walked, nothing-here, none-walked, walked-here, walked-next, walked-within}
use Rattle.engine_queues.proofs.queues.Queues.pick_by.Goals as goal

pub index-requires : goal.index-requires
index-requires c =
    let flow = c.args.flow.now in
    let n = c.loop-place.place-index in
    let walk = c.incoming-places.result.now in
    let walked = walked-here (ends_at c.args.processor) flow.connections walk n c.incoming-places.ensures c.loop-place-test.true in
    omega (arith, walked-within flow c.args.self.now c.requires.queues (ends_at c.args.processor) n (get_or walk n 0) walked, ap length c.self.view_is, c.self.inside.list.ok.0)

pub overflow_cast-result : goal.overflow_cast-result
overflow_cast-result c =
    let flow = c.args.flow.now in
    let n = c.loop-place.place-index in
    let walk = c.incoming-places.result.now in
    let walked = walked-here (ends_at c.args.processor) flow.connections walk n c.incoming-places.ensures c.loop-place-test.true in
    omega (arith, walked-within flow c.args.self.now c.requires.queues (ends_at c.args.processor) n (get_or walk n 0) walked, c.requires.queues.count, c.requires.places)

pub returns-then-branch : goal.returns-then-branch
returns-then-branch c =
    let flow = c.args.flow.now in
    let queues = c.args.self.now in
    let n = c.loop-place.place-index in
    let walk = c.incoming-places.result.now in
    let place = get_or walk n 0 in
    let queue = c.index.result.now in
    let walked = walked-here (ends_at c.args.processor) flow.connections walk n c.incoming-places.ensures c.loop-place-test.true in
    let there = slice_get_read queues (length queues) place queue refl (walked-within flow queues c.requires.queues (ends_at c.args.processor) n place walked) (c.index.ensures ∙ ap (λ l. get_or l place queue) c.self.view_is) in
    sym (first-walked flow queues c.requires.queues c.args.processor c.args.rule c.args.moment n place queue c.from.result walked there
    (λ connection at ends.
    picked-here c.args.rule c.args.processor c.args.moment connection queue (c.requires.queues.each place connection queue at there) c.from.result ends
    (sym c.in_ok-pick.ensures.answer ∙ c.if-branch.true) (c.from.ensures ∙ c.in_ok-pick.ensures.numbers))
    c.loop-place.invariant)

pub loop-place-preserved : goal.loop-place-preserved
loop-place-preserved c =
    let flow = c.args.flow.now in
    let queues = c.args.self.now in
    let n = c.loop-place.place-index in
    let walk = c.incoming-places.result.now in
    let place = get_or walk n 0 in
    let found = c.index.result.now in
    let walked = walked-here (ends_at c.args.processor) flow.connections walk n c.incoming-places.ensures c.loop-place-test.true in
    let there = slice_get_read queues (length queues) place found refl (walked-within flow queues c.requires.queues (ends_at c.args.processor) n place walked) (c.index.ensures ∙ ap (λ l. get_or l place found) c.self.view_is) in
    walked-next (ends_at c.args.processor) flow.connections (OwesNothing (picked_from c.args.rule c.args.processor c.args.moment) flow queues) n place walked c.loop-place.invariant
    (nothing-here flow queues c.requires.queues c.args.processor c.args.rule c.args.moment n place found walked there (sym c.in_ok-pick.ensures.answer ∙ c.if-branch.false))

pub returns : goal.returns
returns c =
    let flow = c.args.flow.now in
    sym (none-walked flow c.args.self.now c.requires.queues c.args.processor c.args.rule c.args.moment
    (λ k other at. c.loop-place.invariant k other (omega (arith, slice_get_within _ k other at, ap length c.incoming-places.ensures, c.loop-place-test.false)) at))
