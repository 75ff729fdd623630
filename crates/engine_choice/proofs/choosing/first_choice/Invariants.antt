use Rattle.engine_choice.specs.Choice.{choice_of, known_by}
use Rattle.engine_choice.specs.First.{GiveNothing}
use Rattle.engine_choice.proofs.choosing.first_choice.Given as goal

abbrev pub invariant-loop-processor : goal.invariant-loop-processor
invariant-loop-processor l =
    GiveNothing (choice_of l.flow (known_by l.queues l.counts l.busy l.listing l.moment)) l.flow.processors l.start l.processor
