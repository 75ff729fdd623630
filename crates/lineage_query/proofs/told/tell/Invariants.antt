use Rattle.std.proofs.Common.{◌≡◌, ◌+◌, ◌++◌}
use Rattle.lineage_query.proofs.Asking.{told-by}
use Rattle.lineage_query.proofs.told.tell.Given as goal

abbrev pub invariant-loop-number : goal.invariant-loop-number
invariant-loop-number g l = record {
  told : l.told.items ≡ l.fn.told.items ++ told-by l.index l.file l.number-index;
  steps : l.steps ≡ l.fn.steps + l.number-index;
}
