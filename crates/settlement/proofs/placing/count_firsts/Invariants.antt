use Rattle.std.proofs.Common.{◌≡◌, ◌≤◌, ◌+◌, length, drop}
use Rattle.settlement.specs.Placing.{firsts}
use Rattle.settlement.proofs.placing.count_firsts.Given as goal

abbrev pub invariant-loop-file : goal.invariant-loop-file
invariant-loop-file l = record {
  whole : l.count + length (firsts (drop l.file-index l.files)) ≡ length (firsts l.files);
  bound : l.count ≤ l.file-index;
}
