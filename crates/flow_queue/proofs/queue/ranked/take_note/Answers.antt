use Rattle.std.proofs.Common.{◌∙◌, arith}
use Rattle.flow_queue.specs.Queue.{held_view}
use Rattle.flow_queue.specs.Ranked.{noted_as}
use Rattle.flow_queue.proofs.Ranks.{if_some, leave-within, ranked-leave}
use Rattle.flow_queue.proofs.queue.ranked.take_note.Goals as goal

pub returns-clause-ranked : goal.returns-clause-ranked
returns-clause-ranked c =
    let order = c.args.order.now in
    let files = c.args.files.now.items in
    let notes = c.args.notes.now.items in
    let held = c.args.held.now in
    let place = c.place_to_leave-place.result in
    let rank = c.place_to_leave-place.ensures.rank in
    let lt = leave-within order files notes c.requires.apart c.requires.ranked held place c.requires.there rank in
    if_some c.remove.result _ _ (c.remove.ensures.succeeds (noted_as (held_view held)) (omega (arith, lt, c.args.notes.now.ok.0))) c.remove.ensures.items
    ∙ ranked-leave order files notes c.requires.apart c.requires.ranked held place c.requires.there rank
