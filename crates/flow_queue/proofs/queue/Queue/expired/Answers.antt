use Rattle.std.proofs.Common.{◌≡◌, Some, false, sym, ◌∙◌, ap, subst}
use Rattle.std.specs.Prelude.{All}
use Rattle.machine_model.specs.Due.{expired_numbers}
use Rattle.machine_model.specs.Events.{ascending}
use Rattle.flow_queue.specs.Picking.{expiring}
use Rattle.flow_queue.specs.Queue.{flight_of, views_of, IsAtRest}
use Rattle.flow_queue.proofs.Expiring.{expiring-ascends, expiring-rests}
use Rattle.flow_queue.proofs.Taken.{lists-all, lists-numbers}
use Rattle.flow_queue.proofs.queue.Queue.expired.Goals as goal

pub returns-then-not-may_have_expired-clause-numbers : goal.returns-then-not-may_have_expired-clause-numbers
returns-then-not-may_have_expired-clause-numbers c =
    c.requires ∙ sym (ap ascending (c.may_have_expired.ensures c.if-not-may_have_expired.true))
    ∙ ap (λ q. expired_numbers q.limits c.args.moment (views_of q.files)) c.self.view_is

pub returns-clause-numbers : goal.returns-clause-numbers
returns-clause-numbers c =
    let queue = c.self.inside in
    let files = queue.files.items in
    let numbers = expiring queue.limits c.args.moment (views_of files) in
    lists-numbers numbers _ c.list_expired.result c.list_expired.new.list.items c.list_expired.ensures.lists
    (sym (expiring-ascends queue.limits c.args.moment files c.self.invariant.files.apart.numbers) ∙ ap (λ q. expired_numbers q.limits c.args.moment (views_of q.files)) c.self.view_is)

pub returns-clause-at_rest : goal.returns-clause-at_rest
returns-clause-at_rest c =
    let queue = c.self.inside in
    let files = queue.files.items in
    let list = c.list_expired.new.list.items in
    subst (λ q. All (IsAtRest q) list) c.self.view_is
    (lists-all (λ n. flight_of n files ≡ Some false) (expiring queue.limits c.args.moment (views_of files)) c.list_expired.result list c.list_expired.ensures.lists
    (expiring-rests queue.limits c.args.moment files c.self.invariant.files.apart.numbers))

pub returns-clause-free : goal.returns-clause-free
returns-clause-free c none =
    let queue = c.self.inside in
    let files = queue.files.items in
    c.list_expired.ensures.free
    (sym (expiring-ascends queue.limits c.args.moment files c.self.invariant.files.apart.numbers)
    ∙ ap (λ q. expired_numbers q.limits c.args.moment (views_of q.files)) c.self.view_is ∙ none)
