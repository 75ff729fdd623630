use Rattle.std.proofs.Common.{◌≡◌}
use Rattle.settlement.specs.Placing.{firsts, placed_from, placing_of, returned}
use Rattle.settlement.proofs.placing.Placer.place_each.Given as goal

abbrev pub invariant-loop-file : goal.invariant-loop-file
invariant-loop-file l = record {
  returned : l.returned.items ≡ returned (placing_of l.self) l.yielded;
  arrived : l.arrived.items ≡ placed_from l.self.next_arrival (firsts l.yielded);
}
