use Rattle.std.proofs.Common.{◌≡◌, ℕ, ◌-◌, ◌≤◌, List, ◌++◌, Ok, drop, length, IsTrue}
use Rattle.flowfile_record.specs.Stored.{kept_of}
use Rattle.flow_report.specs.Counts.{lines_from}
use Rattle.flow_report.specs.Summary.{connections_text}
use Rattle.flow_report.specs.Writing.{Writes}
use Rattle.flow_report.proofs.summary.write_connections.Given as goal

abbrev pub invariant-loop-first : goal.invariant-loop-first
invariant-loop-first g l = record {
  text : List ℕ;
  whole : text ++ lines_from l.first (drop l.first l.connections) (kept_of l.state) ≡ connections_text l.connections (kept_of l.state);
  within : l.first ≤ length l.connections;
  written : IsTrue g.S.Sink.tells → Writes text (g.S.Sink.written l.fn.sink) (g.S.Sink.written l.sink) (Ok tt);
  faults : g.S.Sink.faults l.fn.sink ≤ g.S.Sink.faults l.sink;
}

abbrev pub decreases-loop-first : goal.decreases-loop-first
decreases-loop-first g l = length l.connections - l.first
