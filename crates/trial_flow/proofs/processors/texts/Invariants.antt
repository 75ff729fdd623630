use Rattle.std.proofs.Common.{◌≡◌, map, take}
use Rattle.trial_flow.proofs.processors.texts.Given as goal

abbrev pub invariant-names : goal.invariant-names
invariant-names l = l.list.items ≡ map (λ name. name.now) (take l.name-index l.names)
