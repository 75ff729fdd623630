use Rattle.std.proofs.Common.{◌≤◌, drop, IsTrue}
use Rattle.std.specs.List.{flat_map}
use Rattle.flow_query.specs.Parts.{events_at}
use Rattle.flow_query.specs.Texts.{event_text}
use Rattle.flow_query.proofs.Written.{Leaves}
use Rattle.flow_query.proofs.told.write_told.Given as goal

abbrev pub invariant-loop-number : goal.invariant-loop-number
invariant-loop-number g l = record {
  left : IsTrue g.S.Sink.tells
      → Leaves (flat_map (event_text l.store) (events_at l.events l.numbers)) (flat_map (event_text l.store) (events_at l.events (drop l.number-index l.numbers))) (g.S.Sink.written l.fn.sink)
      (g.S.Sink.written l.sink);
  faults : g.S.Sink.faults l.fn.sink ≤ g.S.Sink.faults l.sink;
}
