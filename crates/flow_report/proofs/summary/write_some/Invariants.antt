use Rattle.std.proofs.Common.{◌≤◌, Ok, take, IsTrue}
use Rattle.std.specs.List.{enumerate_from, flat_map}
use Rattle.flowfile_record.specs.Stored.{kept_of}
use Rattle.flow_report.specs.Summary.{connection_bytes, connection_files}
use Rattle.flow_report.specs.Texts.{connection_text}
use Rattle.flow_report.specs.Writing.{Writes}
use Rattle.flow_report.proofs.summary.write_some.Given as goal

abbrev pub invariant-loop-at : goal.invariant-loop-at
invariant-loop-at g l = record {
  written : IsTrue g.S.Sink.tells
      → Writes (flat_map (λ at. connection_text at.1.id (connection_files at.0 (kept_of l.state)) (connection_bytes at.0 (kept_of l.state))) (take l.at (enumerate_from l.first l.connections)))
      (g.S.Sink.written l.fn.sink) (g.S.Sink.written l.sink) (Ok tt);
  faults : g.S.Sink.faults l.fn.sink ≤ g.S.Sink.faults l.sink;
}
