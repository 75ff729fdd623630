use Rattle.std.proofs.Common.{◌≡◌, ◌+◌, ◌≤◌, ◌++◌, length, take}
use Rattle.std.specs.Prelude.{vec_len, vec_capacity}
use Rattle.std.specs.List.{flat_map}
use Rattle.std.specs.Int.{w32, to_be_bytes}
use Rattle.record_codec.specs.ActiveFile.{active_file}
use Rattle.record_codec.proofs.entry.write.put_placed.Given as goal

abbrev pub invariant-loop-one : goal.invariant-loop-one
invariant-loop-one l = record {
  items : l.out.items ≡ l.fn.out.items ++ to_be_bytes w32 (length l.placed) ++ flat_map active_file (take l.one-index l.placed);
  len : vec_len l.out ≡ vec_len l.fn.out + 4 + length (flat_map active_file (take l.one-index l.placed));
  capacity : vec_capacity l.fn.out ≤ vec_capacity l.out;
}
