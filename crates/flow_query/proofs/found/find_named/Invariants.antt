use Rattle.std.proofs.Common.{drop}
use Rattle.machine_model.specs.Lineage.{is_named}
use Rattle.flow_query.proofs.Identified.{IsAmongRest}
use Rattle.flow_query.proofs.found.find_named.Given as goal

abbrev pub invariant-loop-event : goal.invariant-loop-event
invariant-loop-event l = IsAmongRest is_named l.store l.id l.events (drop l.event-index l.events)
