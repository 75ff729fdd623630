use Rattle.std.proofs.Common.{[], ◌+◌, ap, ◌∙◌}
use Rattle.std.specs.Option.{is_some, unwrap_or}
use Rattle.flow_queue.proofs.Parts.{gone_on, gone-more, gone-missing}
use Rattle.flow_queue.proofs.queue.wholes.take_all.Goals as goal

pub returns-in_default : goal.returns-in_default
returns-in_default c =
    let none = gone-missing c.args.numbers.now c.args.whole c.loop-place.place c.loop-place.list.items c.loop-place-test.true c.in_default.ensures.value ∙ c.loop-place.invariant in
    (ap is_some none, c.clear.ensures.items ∙ ap (λ o. unwrap_or o []) none)

pub loop-place-preserved : goal.loop-place-preserved
loop-place-preserved c =
    let numbers = c.args.numbers.now in
    let place = c.loop-place.place in
    ap (gone_on numbers c.args.whole (place + 1)) c.in_default-push.ensures.items
    ∙ gone-more numbers c.args.whole place c.in-Some.number.now c.loop-place.list.items c.loop-place-test.true c.in-Some.ensures.value
    ∙ c.loop-place.invariant
