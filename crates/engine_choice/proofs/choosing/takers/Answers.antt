use Rattle.std.proofs.Common.{◌<◌, ◌≤◌, ℕ, Bool, true, false, length, map, sym, ap, ◌∙◌, arith}
use Rattle.std.specs.Prelude.{is_some}
use Rattle.machine_model.specs.declared.flow.Processor.{Processor}
use Rattle.engine_choice.specs.Choice.{known_by, taking_of}
use Rattle.engine_choice.proofs.Turns.{all-places-passed, append-nil, places-step}
use Rattle.engine_choice.proofs.choosing.takers.Goals as goal
use Rattle.engine_choice.proofs.choosing.takers.Goals.{then-is_some+in_ok-push, else-is_some}

pub loop-processor-preserved : goal.loop-processor-preserved
loop-processor-preserved c =
    let test : ℕ × Processor → Bool = λ p.
    is_some (taking_of c.args.flow.now (known_by c.args.queues.now c.args.counts.now c.args.busy.now c.args.listing.now c.args.moment) p) in
    let within : c.loop-processor.processor < length c.args.flow.now.processors = omega arith in
    elim c.if-is_some.branch [
      | then-is_some+in_ok-push w ↦
          places-step test c.loop-processor.processor c.args.flow.now.processors c.loop-processor.takers.items c.if-is_some.takers.items true within
          (λ p there. sym w.if-is_some.true ∙ c.is_some.ensures ∙ ap (λ t. is_some t) (c.in_ok-taking_for.ensures p there))
          c.loop-processor.invariant (ap (λ v. v.items) w.takers-is ∙ w.in_ok-push.ensures.items)
      | else-is_some w ↦
          places-step test c.loop-processor.processor c.args.flow.now.processors c.loop-processor.takers.items c.if-is_some.takers.items false within
          (λ p there. sym w.if-is_some.false ∙ c.is_some.ensures ∙ ap (λ t. is_some t) (c.in_ok-taking_for.ensures p there))
          c.loop-processor.invariant (ap (λ v. v.items) w.takers-is ∙ sym (append-nil c.loop-processor.takers.items))
    ]

pub returns : goal.returns
returns c =
    let past : length c.args.flow.now.processors ≤ c.loop-processor.processor = omega arith in
    let place : ℕ × Processor → ℕ = λ p. p.0 in
    c.loop-processor.invariant
    ∙ ap (map place) (all-places-passed
    (λ p. is_some (taking_of c.args.flow.now (known_by c.args.queues.now c.args.counts.now c.args.busy.now c.args.listing.now c.args.moment) p))
    c.loop-processor.processor c.args.flow.now.processors past)
