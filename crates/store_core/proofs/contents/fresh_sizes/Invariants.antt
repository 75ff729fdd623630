use Rattle.std.proofs.Common.{◌≡◌, length, map, take}
use Rattle.store_core.specs.Change.{fresh_contents_of}
use Rattle.store_core.proofs.contents.fresh_sizes.Given as goal

abbrev pub invariant-loop-one : goal.invariant-loop-one
invariant-loop-one l = l.sizes.items ≡ map length (fresh_contents_of (take l.one-index l.placed))
