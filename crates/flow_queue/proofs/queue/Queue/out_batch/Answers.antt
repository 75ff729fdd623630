use Rattle.std.proofs.Common.{[], sym, ◌∙◌, ap, subst, arith}
use Rattle.std.specs.Prelude.{is_some, length}
use Rattle.std.specs.Option.{unwrap_or}
use Rattle.flow_queue.specs.Inside.{queue_in}
use Rattle.flow_queue.specs.Picking.{Picks}
use Rattle.flow_queue.specs.Swapping.{MayGoOut, batch_due}
use Rattle.flow_queue.proofs.OutBatch.{due-is, may-go, none-due, none-go, picked-answer, picked-numbers, rest-count, resting-count}
use Rattle.flow_queue.proofs.Taken.{picks-failed}
use Rattle.flow_queue.proofs.queue.Queue.out_batch.Goals as goal

pub returns-then-len-least-clause-answer : goal.returns-then-len-least-clause-answer
returns-then-len-least-clause-answer c =
    ap is_some (sym (none-due c.args.self.now (omega (arith, c.len.ensures.len, c.least_of-least.ensures, c.if-len-least.true, ap (λ q. length q.files) c.self.view_is, ap (λ q. q.limits.swap) c.self.view_is))))

pub returns-then-len-least-clause-numbers : goal.returns-then-len-least-clause-numbers
returns-then-len-least-clause-numbers c =
    c.requires
    ∙ ap (λ o. unwrap_or o []) (sym (none-due c.args.self.now (omega (arith, c.len.ensures.len, c.least_of-least.ensures, c.if-len-least.true, ap (λ q. length q.files) c.self.view_is, ap (λ q. q.limits.swap) c.self.view_is))))

pub returns-then-len-least-clause-may_go : goal.returns-then-len-least-clause-may_go
returns-then-len-least-clause-may_go c = subst (MayGoOut c.args.self.now) (sym c.requires) (none-go c.args.self.now)

pub pick_last-requires-clause-count : goal.pick_last-requires-clause-count
pick_last-requires-clause-count c =
    let queue = c.self.inside in
    c.count_resting-resting.ensures ∙ rest-count queue.files.items
    ∙ sym (resting-count (queue_in queue) queue.by_rank.items c.self.invariant.files.apart c.self.invariant.ranked)

pub returns-clause-answer : goal.returns-clause-answer
returns-clause-answer c =
    let queue = c.self.inside in
    let list = c.pick_last.new.list.items in
    let due = due-is (queue_in queue) queue.by_rank.items c.self.invariant.files.apart c.self.invariant.ranked ∙ ap batch_due c.self.view_is in
    picked-answer (batch_due c.args.self.now) c.pick_last.result list (subst (λ found. Picks found c.pick_last.result list) due c.pick_last.ensures.picks)

pub returns-clause-numbers : goal.returns-clause-numbers
returns-clause-numbers c =
    let queue = c.self.inside in
    let list = c.pick_last.new.list.items in
    let due = due-is (queue_in queue) queue.by_rank.items c.self.invariant.files.apart c.self.invariant.ranked ∙ ap batch_due c.self.view_is in
    picked-numbers (batch_due c.args.self.now) c.pick_last.result list (subst (λ found. Picks found c.pick_last.result list) due c.pick_last.ensures.picks)

pub returns-clause-may_go : goal.returns-clause-may_go
returns-clause-may_go c =
    let queue = c.self.inside in
    let list = c.pick_last.new.list.items in
    subst (λ q. MayGoOut q list) c.self.view_is (may-go (queue_in queue) queue.by_rank.items c.self.invariant.files.apart c.self.invariant.ranked c.pick_last.result list c.pick_last.ensures.picks)

pub returns-clause-failed : goal.returns-clause-failed
returns-clause-failed c = picks-failed _ c.pick_last.result c.pick_last.new.list.items c.pick_last.ensures.picks

pub returns-clause-free : goal.returns-clause-free
returns-clause-free c none =
    let queue = c.self.inside in
    let due = due-is (queue_in queue) queue.by_rank.items c.self.invariant.files.apart c.self.invariant.ranked ∙ ap batch_due c.self.view_is in
    c.pick_last.ensures.free (due ∙ none)
