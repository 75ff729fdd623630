use Rattle.std.proofs.Common.{◌≡◌, ◌*◌, ◌≤◌, ◌^◌, map, take}
use Rattle.std.specs.List.{sum}
use Rattle.checkpoint_store.specs.Consistent.{record_size}
use Rattle.kept_state.specs.Changes.{record_of}
use Rattle.kept_state.proofs.size.bytes_of_placed.Given as goal

abbrev pub invariant-loop-one : goal.invariant-loop-one
invariant-loop-one l = (l.bytes ≡ sum (map record_size (map record_of (take l.one-index l.placed)))) × (l.bytes ≤ 2 ^ 17 * l.one-index)
