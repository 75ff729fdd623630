use Rattle.std.proofs.Common.{◌≡◌, ◌*◌, ◌≤◌, ◌^◌, map, take}
use Rattle.std.specs.List.{sum}
use Rattle.checkpoint_store.specs.Consistent.{record_size}
use Rattle.kept_state.proofs.size.bytes_of.Given as goal

abbrev pub invariant-loop-active : goal.invariant-loop-active
invariant-loop-active l = (l.bytes ≡ sum (map record_size (take l.active-index l.files))) × (l.bytes ≤ 2 ^ 17 * l.active-index)
