use Rattle.std.proofs.Common.{◌≡◌, map, take}
use Rattle.machine_model.specs.Acting.{passes}
use Rattle.engine_queues.proofs.listing.passing_of.Given as goal

abbrev pub invariant-loop-name : goal.invariant-loop-name
invariant-loop-name l =
    (l.passing.items ≡ map (passes l.filter) (take l.name-index l.names)) × (l.test.filter.now ≡ l.filter)
