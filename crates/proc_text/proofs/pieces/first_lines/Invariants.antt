use Rattle.std.proofs.Common.{◌-◌, ◌≤◌}
use Rattle.proc_text.proofs.Lines.{Counting}
use Rattle.proc_text.proofs.pieces.first_lines.Given as goal

abbrev pub invariant-loop-count : goal.invariant-loop-count
invariant-loop-count l = record {
  counting : Counting l.content l.rest l.count;
  few : l.count ≤ l.lines;
}

abbrev pub decreases-loop-count : goal.decreases-loop-count
decreases-loop-count l = l.lines - l.count
