use Rattle.std.proofs.Common.{◌≡◌, ◌++◌, take}
use Rattle.prov_store.specs.Loading.{files_later}
use Rattle.prov_store.proofs.load.add_later.Given as goal

abbrev pub invariant-loop-number : goal.invariant-loop-number
invariant-loop-number l = record {
  items : l.stale.items ≡ l.fn.stale.items ++ files_later l.last (take l.number-index l.numbers);
}
