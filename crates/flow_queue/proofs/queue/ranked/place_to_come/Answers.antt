use Rattle.std.proofs.Common.{sym, ◌∙◌, subst}
use Rattle.machine_model.specs.Order.{in_order}
use Rattle.flow_queue.specs.Queue.{held_view, views_of}
use Rattle.flow_queue.specs.Ranked.{IsRankOf}
use Rattle.flow_queue.proofs.Ends.{last-rank}
use Rattle.flow_queue.proofs.queue.ranked.place_to_come.Goals as goal

pub returns-then-goes_last-clause-rank : goal.returns-then-goes_last-clause-rank
returns-then-goes_last-clause-rank c =
    let order = c.args.order.now in
    let files = c.args.files.now.items in
    let notes = c.args.notes.now in
    let view = held_view c.args.held.now in
    subst (IsRankOf order view (in_order order (views_of files))) (sym notes.ok.0 ∙ sym c.len.ensures)
    (last-rank order files notes.items c.requires.apart c.requires.ranked view (c.goes_last.ensures c.if-goes_last.true))
