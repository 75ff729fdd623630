use Rattle.std.proofs.Common.{◌≡◌, drop}
use Rattle.flow_definition.specs.OwnPatterns.{too_big_in}
use Rattle.flow_definition.proofs.own_patterns.first_too_big.Given as goal

abbrev pub invariant-attempts : goal.invariant-attempts
invariant-attempts l = too_big_in l.attempts ≡ too_big_in (drop l.attempt-index l.attempts)
