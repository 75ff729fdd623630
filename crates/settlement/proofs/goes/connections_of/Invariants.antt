use Rattle.std.proofs.Common.{◌≡◌, ◌++◌, map, drop}
use Rattle.std.specs.Prelude.{filter}
use Rattle.std.specs.List.{enumerate_from}
use Rattle.machine_model.specs.Placing.{connections_of, leads}
use Rattle.settlement.proofs.goes.connections_of.Given as goal

abbrev pub invariant-loop-connection : goal.invariant-loop-connection
invariant-loop-connection l = record {
  place : l.place ≡ l.connection-index;
  whole : l.found.items ++ map (λ c. c.0) (filter (leads l.processor l.relationship) (enumerate_from l.connection-index (drop l.connection-index l.connection-items)))
      ≡ connections_of l.flow l.processor l.relationship;
}
