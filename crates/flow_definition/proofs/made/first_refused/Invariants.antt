use Rattle.std.proofs.Common.{◌≡◌, drop}
use Rattle.flow_definition.specs.Judged.{first_refused_in}
use Rattle.flow_definition.proofs.made.first_refused.Given as goal

abbrev pub invariant-list : goal.invariant-list
invariant-list l = first_refused_in l.rule l.list ≡ first_refused_in l.rule (drop l.refused-index l.list)
