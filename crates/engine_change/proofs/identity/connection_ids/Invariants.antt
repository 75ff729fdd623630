use Rattle.std.proofs.Common.{◌≡◌, map, take}
use Rattle.machine_model.specs.declared.flow.Connection.{Connection}
use Rattle.engine_change.proofs.identity.connection_ids.Given as goal

abbrev pub invariant-loop-connection : goal.invariant-loop-connection
invariant-loop-connection l = l.ids ≡ map (λ (connection : Connection). connection.id) (take l.connection-index l.connection-items)
