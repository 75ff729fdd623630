use Rattle.std.proofs.Common.{◌-◌, ◌≤◌, Ok, take, get_or, IsTrue}
use Rattle.std.specs.List.{flat_map}
use Rattle.flowfile_record.specs.Events.{code_of}
use Rattle.flow_report.specs.Summary.{count_text, kinds}
use Rattle.flow_report.specs.Writing.{Writes}
use Rattle.flow_report.proofs.summary.write_counts.Given as goal

abbrev pub invariant-loop-kind : goal.invariant-loop-kind
invariant-loop-kind g l = record {
  written : IsTrue g.S.Sink.tells
      → Writes (flat_map (λ kind. count_text kind (get_or l.events.counts (code_of kind - 1) 0)) (take l.kind-index kinds)) (g.S.Sink.written l.fn.sink) (g.S.Sink.written l.sink) (Ok tt);
  faults : g.S.Sink.faults l.fn.sink ≤ g.S.Sink.faults l.sink;
}
