use Rattle.std.proofs.Common.{◌≤◌, drop, IsTrue}
use Rattle.std.specs.List.{flat_map}
use Rattle.flow_query.specs.Texts.{kin_text}
use Rattle.flow_query.proofs.Written.{Leaves}
use Rattle.flow_query.proofs.lines.write_kin.Given as goal

abbrev pub invariant-loop-file : goal.invariant-loop-file
invariant-loop-file g l = record {
  left : IsTrue g.S.Sink.tells
      → Leaves (flat_map (kin_text l.word l.store) l.files) (flat_map (kin_text l.word l.store) (drop l.file-index l.files)) (g.S.Sink.written l.fn.sink) (g.S.Sink.written l.sink);
  faults : g.S.Sink.faults l.fn.sink ≤ g.S.Sink.faults l.sink;
}
