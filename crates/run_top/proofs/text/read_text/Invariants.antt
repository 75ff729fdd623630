use Rattle.std.proofs.Common.{◌≡◌, ◌≤◌, ◌++◌, length, ◌-◌}
use Rattle.std.specs.Prelude.{IsTrue}
use Rattle.run_top.proofs.text.read_text.Given as goal

abbrev pub invariant-pieces : goal.invariant-pieces
invariant-pieces g l = record {
  within : length l.text.items ≤ l.most;
  read : IsTrue g.F.Source.tells → g.F.Source.rest l.initial.source ≡ l.text.items ++ g.F.Source.rest l.source;
  faults : g.F.Source.faults l.initial.source ≤ g.F.Source.faults l.source;
}

abbrev pub decreases-pieces : goal.decreases-pieces
decreases-pieces g l = l.most - length l.text.items
