use Rattle.std.proofs.Common.{◌≡◌, drop}
use Rattle.flow_definition.specs.OwnPatterns.{unread_in}
use Rattle.flow_definition.proofs.own_patterns.first_unread.Given as goal

abbrev pub invariant-attempts : goal.invariant-attempts
invariant-attempts l = unread_in l.attempts ≡ unread_in (drop l.attempt-index l.attempts)
