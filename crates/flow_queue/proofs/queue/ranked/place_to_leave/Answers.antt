use Rattle.flow_queue.proofs.Ends.{first-rank}
use Rattle.flow_queue.proofs.queue.ranked.place_to_leave.Goals as goal

pub returns-then-is_first-clause-rank : goal.returns-then-is_first-clause-rank
returns-then-is_first-clause-rank c =
    first-rank c.args.order.now c.args.files.now.items c.args.notes.now.items c.requires.apart c.requires.ranked c.args.held.now c.requires.there (c.is_first.ensures c.if-is_first.true)
