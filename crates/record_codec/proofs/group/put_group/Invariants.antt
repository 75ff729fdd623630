use Rattle.std.proofs.Common.{◌≡◌, ◌+◌, ◌≤◌, ◌++◌, length, take}
use Rattle.std.specs.Prelude.{vec_len, vec_capacity}
use Rattle.std.specs.List.{flat_map}
use Rattle.std.specs.Int.{w32, to_be_bytes}
use Rattle.record_codec.specs.Group.{item}
use Rattle.record_codec.proofs.group.put_group.Given as goal

abbrev pub invariant-loop-item : goal.invariant-loop-item
invariant-loop-item l = record {
  items : l.out.items ≡ l.fn.out.items ++ to_be_bytes w32 (length l.items) ++ flat_map item (take l.item-index l.items);
  len : vec_len l.out ≡ vec_len l.fn.out + 4 + length (flat_map item (take l.item-index l.items));
  capacity : vec_capacity l.fn.out ≤ vec_capacity l.out;
}
