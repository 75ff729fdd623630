use Rattle.std.proofs.Common.{◌≡◌, map}
use Rattle.engine_session.specs.Handing.{taken_as}
use Rattle.engine_session.proofs.handing.taken_from.Given as goal

abbrev pub invariant-loop-file : goal.invariant-loop-file
invariant-loop-file l = l.taken ≡ map (λ p. taken_as l.store (p.0.now, p.1)) l.yielded
