use Rattle.std.proofs.Common.{◌≡◌, ◌+◌}
use Rattle.lineage_query.proofs.Asking.{found-by}
use Rattle.lineage_query.proofs.walk.look.Given as goal

abbrev pub invariant-loop-number : goal.invariant-loop-number
invariant-loop-number g l = record {
  found : l.found ≡ found-by l.way l.index l.file l.number-index l.fn.found;
  steps : l.steps ≡ l.fn.steps + l.number-index;
}
