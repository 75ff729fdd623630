use Rattle.std.proofs.Common.{◌≡◌, ◌+◌, ◌-◌, ◌≤◌, ◌++◌, length, take}
use Rattle.std.specs.Prelude.{vec_len, vec_capacity}
use Rattle.std.specs.List.{flat_map}
use Rattle.std.specs.FinMap.{entries, len}
use Rattle.std.specs.Int.{w16, to_be_bytes}
use Rattle.record_codec.specs.FileEncoding.{pair}
use Rattle.record_codec.proofs.attributes.put_attributes.Given as goal

abbrev pub invariant-loop-key : goal.invariant-loop-key
invariant-loop-key l = record {
  written : l.out.items ≡ l.fn.out.items ++ to_be_bytes w16 (len l.attributes) ++ flat_map pair (take l.place (entries l.attributes));
  long : vec_len l.out ≡ vec_len l.fn.out + 2 + length (flat_map pair (take l.place (entries l.attributes)));
  capacity : vec_capacity l.fn.out ≤ vec_capacity l.out;
  within : l.place ≤ length (entries l.attributes);
}

abbrev pub decreases-loop-key : goal.decreases-loop-key
decreases-loop-key l = length (entries l.attributes) - l.place
