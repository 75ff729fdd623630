use Rattle.std.proofs.Common.{◌≡◌, filter, length, map, nat_lt, take}
use Rattle.flow_definition.specs.Listed.{trimmed}
use Rattle.flow_definition.proofs.listed.listed_names.Given as goal

abbrev pub invariant-parts : goal.invariant-parts
invariant-parts l =
    l.names.items ≡ filter (λ name. nat_lt 0 (length name)) (map trimmed (map (λ part. part.now) (take l.part-index l.part-items)))
