use Rattle.std.proofs.Common.{◌≡◌, sym, ap, ◌∙◌}
use Rattle.std.specs.Prelude.{None}
use Rattle.engine_queues.specs.Queues.{queue_seen}
use Rattle.engine_choice.specs.Choice.{ending_by, first_blocking, first_penalty_end, known_by, takers}
use Rattle.engine_choice.proofs.Penalties.{none-of, same-penalty-end}
use Rattle.engine_choice.proofs.choosing.ending.Goals as goal

pub returns-in-Some : goal.returns-in-Some
returns-in-Some c =
    ap (λ rest. ending_by rest (first_blocking c.args.flow.now (known_by c.args.queues.now c.args.counts.now c.args.busy.now c.args.listing.now c.args.moment)))
    (c.in-Some.ensures ∙ same-penalty-end c.args.flow.now c.args.queues.now c.args.moment c.requires.queues.count)

pub returns-in-Some-first_holding_back : goal.returns-in-Some-first_holding_back
returns-in-Some-first_holding_back c =
    let none : None ≡ first_penalty_end c.args.flow.now (queue_seen c.args.queues.now) c.args.moment =
    sym (none-of c.next_penalty_end.result c.in_default.not-Some) ∙ c.next_penalty_end.ensures
    ∙ same-penalty-end c.args.flow.now c.args.queues.now c.args.moment c.requires.queues.count in
    let list = takers c.args.flow.now (known_by c.args.queues.now c.args.counts.now c.args.busy.now c.args.listing.now c.args.moment) in
    let places = sym (c.deref.ensures.value ∙ c.in_ok-takers.ensures) in
    ap (ending_by None) (c.in-Some-first_holding_back.ensures list places)
    ∙ ap (λ rest. ending_by rest (first_blocking c.args.flow.now (known_by c.args.queues.now c.args.counts.now c.args.busy.now c.args.listing.now c.args.moment))) none

pub returns : goal.returns
returns c =
    let none : None ≡ first_penalty_end c.args.flow.now (queue_seen c.args.queues.now) c.args.moment =
    sym (none-of c.next_penalty_end.result c.in_default.not-Some) ∙ c.next_penalty_end.ensures
    ∙ same-penalty-end c.args.flow.now c.args.queues.now c.args.moment c.requires.queues.count in
    let list = takers c.args.flow.now (known_by c.args.queues.now c.args.counts.now c.args.busy.now c.args.listing.now c.args.moment) in
    let places = sym (c.deref.ensures.value ∙ c.in_ok-takers.ensures) in
    ap (ending_by None) (c.in-None.ensures list places)
    ∙ ap (λ rest. ending_by rest (first_blocking c.args.flow.now (known_by c.args.queues.now c.args.counts.now c.args.busy.now c.args.listing.now c.args.moment))) none
