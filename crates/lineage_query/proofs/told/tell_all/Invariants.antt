use Rattle.std.proofs.Common.{◌≡◌, ◌+◌, ◌≤◌, ◌++◌, take}
use Rattle.lineage_query.specs.Work.{work}
use Rattle.lineage_query.specs.Told.{numbers_of_all}
use Rattle.lineage_query.proofs.told.tell_all.Given as goal

abbrev pub invariant-loop-file : goal.invariant-loop-file
invariant-loop-file g l = record {
  told : l.told.items ≡ l.fn.told.items ++ numbers_of_all l.index (take l.file-index l.files);
  steps : l.steps ≤ l.fn.steps + work l.index (take l.file-index l.files);
}
