use Rattle.std.proofs.Common.{◌≡◌, ℕ, ◌≤◌, List, ◌++◌, length, IsTrue}
use Rattle.flow_report.proofs.bytes.write_bytes.Given as goal

abbrev pub invariant-loop-rest : goal.invariant-loop-rest
invariant-loop-rest g l = record {
  written : IsTrue g.S.Sink.tells
      → (part : List ℕ) × (g.S.Sink.written l.sink ≡ g.S.Sink.written l.fn.sink ++ part) × (part ++ l.rest ≡ l.fn.bytes);
  faults : g.S.Sink.faults l.fn.sink ≤ g.S.Sink.faults l.sink;
}

abbrev pub decreases-loop-rest : goal.decreases-loop-rest
decreases-loop-rest g l = length l.rest
