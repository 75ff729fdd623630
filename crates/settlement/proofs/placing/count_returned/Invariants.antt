use Rattle.std.proofs.Common.{◌≡◌, ◌≤◌, ◌+◌, length, drop}
use Rattle.settlement.specs.Placing.{PlacingFrom, returned}
use Rattle.settlement.proofs.placing.count_returned.Given as goal

abbrev pub invariant-loop-file : goal.invariant-loop-file
invariant-loop-file l = record {
  whole : (from : PlacingFrom) → l.count + length (returned from (drop l.file-index l.files)) ≡ length (returned from l.files);
  bound : l.count ≤ l.file-index;
}
