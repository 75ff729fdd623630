use Rattle.std.proofs.Common.{◌≤◌, IsTrue}
use Rattle.std.specs.List.{flat_map}
use Rattle.flow_query.specs.Parts.{waiting_text}
use Rattle.flow_query.proofs.Written.{Leaves}
use Rattle.flow_query.proofs.waiting.write_files.Given as goal

abbrev pub invariant-loop-waiting : goal.invariant-loop-waiting
invariant-loop-waiting g l = record {
  left : IsTrue g.S.Sink.tells
      → Leaves (flat_map (waiting_text l.store) l.queue.items) (flat_map (waiting_text l.store) l.waiting-iterator) (g.S.Sink.written l.fn.sink) (g.S.Sink.written l.sink);
  faults : g.S.Sink.faults l.fn.sink ≤ g.S.Sink.faults l.sink;
}
