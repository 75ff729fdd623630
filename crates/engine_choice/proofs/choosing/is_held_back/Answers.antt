use Rattle.std.proofs.Common.{◌≡◌, ◌<◌, length, sym, ap, subst, ◌∙◌}
use Rattle.machine_model.specs.declared.flow.Flow.{Flow}
use Rattle.machine_model.specs.Quiet.{is_held_back}
use Rattle.engine_queues.specs.Picking.{AreOf}
use Rattle.engine_queues.specs.Queues.{queue_seen}
use Rattle.engine_choice.proofs.choosing.is_held_back.Goals as goal

pub is_held_back-requires-clause-queues : goal.is_held_back-requires-clause-queues
is_held_back-requires-clause-queues c =
    let same : c.flow-linked.result.now ≡ c.args.flow.now = c.flow-linked.ensures ∙ c.requires.listing in
    subst (λ (fl : Flow). AreOf fl c.args.queues.now) (sym same) c.requires.queues

pub is_held_back-requires-clause-processor : goal.is_held_back-requires-clause-processor
is_held_back-requires-clause-processor c =
    let same : c.flow-linked.result.now ≡ c.args.flow.now = c.flow-linked.ensures ∙ c.requires.listing in
    subst (λ (fl : Flow). c.args.processor < length fl.processors) (sym same) c.requires.processor

pub returns : goal.returns
returns c p =
    let same : c.flow-linked.result.now ≡ c.args.flow.now = c.flow-linked.ensures ∙ c.requires.listing in
    c.is_held_back.ensures p ∙ ap (λ (fl : Flow). is_held_back fl (queue_seen c.args.queues.now) (c.args.processor, p)) same
