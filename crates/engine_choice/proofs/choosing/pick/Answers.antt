use Rattle.std.proofs.Common.{◌≡◌, ◌<◌, ◌≤◌, length, sym, ap, subst, ◌∙◌}
use Rattle.std.specs.Prelude.{slice_get}
use Rattle.machine_model.specs.declared.flow.Flow.{Flow}
use Rattle.machine_model.specs.declared.limits.TheConstants.{CONNECTIONS_MAX}
use Rattle.engine_queues.specs.Picking.{AreOf, first_pick}
use Rattle.engine_queues.specs.Queues.{queue_seen}
use Rattle.engine_choice.proofs.Turns.{if-ok}
use Rattle.engine_choice.proofs.choosing.pick.Goals as goal

pub pick-requires-clause-queues : goal.pick-requires-clause-queues
pick-requires-clause-queues c =
    let same : c.flow-linked.result.now ≡ c.args.flow.now = c.flow-linked.ensures ∙ c.requires.listing in
    subst (λ (fl : Flow). AreOf fl c.args.queues.now) (sym same) c.requires.queues

pub pick-requires-clause-places : goal.pick-requires-clause-places
pick-requires-clause-places c =
    let same : c.flow-linked.result.now ≡ c.args.flow.now = c.flow-linked.ensures ∙ c.requires.listing in
    subst (λ (fl : Flow). length fl.connections ≤ CONNECTIONS_MAX) (sym same) c.requires.places

pub pick-requires-clause-processor : goal.pick-requires-clause-processor
pick-requires-clause-processor c =
    let same : c.flow-linked.result.now ≡ c.args.flow.now = c.flow-linked.ensures ∙ c.requires.listing in
    subst (λ (fl : Flow). c.args.processor < length fl.processors) (sym same) c.requires.processor

pub returns : goal.returns
returns c =
    let same : c.flow-linked.result.now ≡ c.args.flow.now = c.flow-linked.ensures ∙ c.requires.listing in
    if-ok _ _ (λ picked these p there.
    these p (ap (λ (fl : Flow). slice_get fl.processors c.args.processor) same ∙ there)
    ∙ ap (λ (fl : Flow). first_pick fl (queue_seen c.args.queues.now) c.args.moment (c.args.processor, p)) same)
    c.pick.result c.pick.ensures
