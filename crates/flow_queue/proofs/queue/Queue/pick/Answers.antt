use Rattle.std.proofs.Common.{◌∙◌, ap, subst}
use Rattle.std.specs.Prelude.{All}
use Rattle.std.specs.Option.{option_map}
use Rattle.machine_model.specs.Due.{numbers_of}
use Rattle.flow_queue.specs.Inside.{queue_in}
use Rattle.flow_queue.specs.Picking.{Picks, numbers_picked}
use Rattle.flow_queue.specs.Queue.{IsAtRest, offered, offered_by, picked}
use Rattle.flow_queue.proofs.Ranks.{eligible-ranked}
use Rattle.flow_queue.proofs.Taken.{picks-answer, picks-numbers, picks-rest}
use Rattle.flow_queue.proofs.queue.Queue.pick.Goals as goal

pub returns-clause-answer : goal.returns-clause-answer
returns-clause-answer c =
    let queue = c.self.inside in
    let list = c.pick_by.new.list.items in
    let ranked = eligible-ranked queue.limits c.args.moment queue.files.items queue.order queue.by_rank.items c.self.invariant.files.apart c.self.invariant.ranked in
    let picks = subst (λ views. Picks (numbers_picked c.args.rule views) c.pick_by.result list) ranked c.pick_by.ensures.picks in
    picks-answer (picked c.args.rule c.args.moment c.args.self.now) c.pick_by.result list (subst (λ q. Picks (option_map numbers_of (picked c.args.rule c.args.moment q)) c.pick_by.result list) c.self.view_is picks)

pub returns-clause-numbers : goal.returns-clause-numbers
returns-clause-numbers c =
    let queue = c.self.inside in
    let list = c.pick_by.new.list.items in
    let ranked = eligible-ranked queue.limits c.args.moment queue.files.items queue.order queue.by_rank.items c.self.invariant.files.apart c.self.invariant.ranked in
    let picks = subst (λ views. Picks (numbers_picked c.args.rule views) c.pick_by.result list) ranked c.pick_by.ensures.picks in
    picks-numbers (picked c.args.rule c.args.moment c.args.self.now) c.pick_by.result list (subst (λ q. Picks (option_map numbers_of (picked c.args.rule c.args.moment q)) c.pick_by.result list) c.self.view_is picks)

pub returns-clause-at_rest : goal.returns-clause-at_rest
returns-clause-at_rest c =
    let queue = c.self.inside in
    let list = c.pick_by.new.list.items in
    let ranked = eligible-ranked queue.limits c.args.moment queue.files.items queue.order queue.by_rank.items c.self.invariant.files.apart c.self.invariant.ranked in
    let picks = subst (λ views. Picks (numbers_picked c.args.rule views) c.pick_by.result list) ranked c.pick_by.ensures.picks in
    subst (λ q. All (IsAtRest q) list) c.self.view_is (picks-rest c.args.rule c.args.moment (queue_in queue) c.pick_by.result list c.self.invariant.files.apart.numbers picks)

pub returns-clause-free : goal.returns-clause-free
returns-clause-free c none =
    let queue = c.self.inside in
    let ranked = eligible-ranked queue.limits c.args.moment queue.files.items queue.order queue.by_rank.items c.self.invariant.files.apart c.self.invariant.ranked in
    c.pick_by.ensures.free (ap (offered_by c.args.rule) ranked ∙ ap (offered c.args.rule c.args.moment) c.self.view_is ∙ none)
