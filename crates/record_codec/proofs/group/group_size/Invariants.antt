use Rattle.std.proofs.Common.{◌≡◌, ◌+◌, length, take}
use Rattle.std.specs.List.{flat_map}
use Rattle.record_codec.specs.Group.{item}
use Rattle.record_codec.proofs.group.group_size.Given as goal

abbrev pub invariant-loop-item : goal.invariant-loop-item
invariant-loop-item l = l.size ≡ 4 + length (flat_map item (take l.item-index l.items))
