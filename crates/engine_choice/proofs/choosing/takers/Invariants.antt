use Rattle.std.proofs.Common.{◌≡◌, map, take}
use Rattle.std.specs.Prelude.{filter, is_some}
use Rattle.std.specs.List.{enumerate_from}
use Rattle.engine_choice.specs.Choice.{known_by, taking_of}
use Rattle.engine_choice.proofs.choosing.takers.Given as goal

abbrev pub invariant-loop-processor : goal.invariant-loop-processor
invariant-loop-processor l =
    l.takers.items ≡ map (λ p. p.0)
    (filter (λ p. is_some (taking_of l.flow (known_by l.queues l.counts l.busy l.listing l.moment) p))
    (take l.processor (enumerate_from 0 l.flow.processors)))
