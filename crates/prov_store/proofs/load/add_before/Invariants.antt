use Rattle.std.proofs.Common.{◌≡◌, ◌++◌, take}
use Rattle.prov_store.specs.Loading.{files_before}
use Rattle.prov_store.proofs.load.add_before.Given as goal

abbrev pub invariant-loop-number : goal.invariant-loop-number
invariant-loop-number l = record {
  items : l.stale.items ≡ l.fn.stale.items ++ files_before l.first (take l.number-index l.numbers);
}
