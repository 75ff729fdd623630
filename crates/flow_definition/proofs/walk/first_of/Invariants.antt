use Rattle.std.proofs.Common.{◌≡◌, drop}
use Rattle.serde_json.specs.View.{view}
use Rattle.flow_definition.specs.Walk.{first_broken}
use Rattle.flow_definition.proofs.walk.first_of.Given as goal

abbrev pub invariant-rules : goal.invariant-rules
invariant-rules l = first_broken l.rules (view l.top) ≡ first_broken (drop l.rule-index l.rules) (view l.top)
