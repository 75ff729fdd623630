use Rattle.std.proofs.Common.{◌≡◌, ◌<◌, length, map, take}
use Rattle.std.specs.List.{enumerate_from}
use Rattle.engine_steps.specs.Flights.{sessions_of}
use Rattle.engine_steps.proofs.engine.Engine.busy.Given as goal

abbrev pub invariant-loop-place : goal.invariant-loop-place
invariant-loop-place l = (0 < length l.self.out) × (l.busy.items ≡ map (λ p. sessions_of l.self.out p.0) (enumerate_from 0 (take l.place l.self.flow.processors)))
