use Rattle.std.proofs.Common.{rules, arith}
use Rattle.std.proofs.lemmas.Fn.{always_returns_same}
use Rattle.flow_queue.specs.Queue.{held_view}
use Rattle.flow_queue.proofs.Ranks.{ahead, notes-parted, rank-from}
use Rattle.flow_queue.proofs.queue.ranked.place_in_order.Goals as goal

pub returns-clause-rank : goal.returns-clause-rank
returns-clause-rank c =
    let order = c.args.order.now in
    let file = held_view c.args.held.now in
    let files = c.args.files.now.items in
    let notes = c.args.by_rank.now.items in
    let parted = notes-parted order file files notes c.requires.apart c.requires.ranked in
    let point = c.partition_point.ensures.partitioned (ahead order file files) (always_returns_same _ _ _ (λ a r f called. search rules)) parted in
    rank-from order file files notes c.partition_point.result c.requires.apart c.requires.ranked (omega (arith, c.partition_point.ensures.bound, c.args.by_rank.now.ok.0)) point
