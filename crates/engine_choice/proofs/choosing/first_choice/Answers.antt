use Rattle.std.proofs.Common.{sym, ◌∙◌, arith}
use Rattle.engine_choice.specs.Choice.{choice_of, known_by}
use Rattle.engine_choice.proofs.Penalties.{none-of}
use Rattle.engine_choice.proofs.Turns.{given-here, nothing-more}
use Rattle.engine_choice.proofs.choosing.first_choice.Goals as goal

pub returns-in-Some : goal.returns-in-Some
returns-in-Some c =
    given-here (choice_of c.args.flow.now (known_by c.args.queues.now c.args.counts.now c.args.busy.now c.args.listing.now c.args.moment))
    c.args.flow.now.processors c.args.start c.args.end c.loop-processor.processor c.in-Some.choice (omega arith) c.loop-processor.auto.processor (omega arith)
    (λ x there. sym c.in-Some.is ∙ c.in_ok-choice.ensures x there) c.loop-processor.invariant

pub loop-processor-preserved : goal.loop-processor-preserved
loop-processor-preserved c =
    nothing-more (choice_of c.args.flow.now (known_by c.args.queues.now c.args.counts.now c.args.busy.now c.args.listing.now c.args.moment))
    c.args.flow.now.processors c.args.start c.loop-processor.processor c.loop-processor.invariant
    (λ x there. sym (none-of c.in_ok-choice.field-0 c.in_default.not-Some) ∙ c.in_ok-choice.ensures x there)
