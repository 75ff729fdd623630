use Rattle.std.proofs.Common.{◌≤◌, drop, IsTrue}
use Rattle.std.specs.List.{flat_map}
use Rattle.flow_query.specs.Texts.{event_text}
use Rattle.flow_query.proofs.Written.{Leaves}
use Rattle.flow_query.proofs.lines.write_events.Given as goal

abbrev pub invariant-loop-event : goal.invariant-loop-event
invariant-loop-event g l = record {
  left : IsTrue g.S.Sink.tells
      → Leaves (flat_map (event_text l.store) l.events) (flat_map (event_text l.store) (drop l.event-index l.events)) (g.S.Sink.written l.fn.sink) (g.S.Sink.written l.sink);
  faults : g.S.Sink.faults l.fn.sink ≤ g.S.Sink.faults l.sink;
}
