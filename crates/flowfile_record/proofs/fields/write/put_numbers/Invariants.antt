use Rattle.std.proofs.Common.{◌≡◌, ◌+◌, ◌*◌, ◌≤◌, ◌++◌, length, take}
use Rattle.std.specs.Prelude.{vec_len, vec_capacity}
use Rattle.std.specs.List.{flat_map}
use Rattle.std.specs.Int.{w32, w64, to_be_bytes}
use Rattle.flowfile_record.proofs.fields.write.put_numbers.Given as goal

abbrev pub invariant-loop-number : goal.invariant-loop-number
invariant-loop-number l = record {
  items : l.out.items ≡ l.fn.out.items ++ to_be_bytes w32 (length l.numbers) ++ flat_map (to_be_bytes w64) (take l.number-index l.numbers);
  len : vec_len l.out ≡ vec_len l.fn.out + 4 + 8 * l.number-index;
  capacity : vec_capacity l.fn.out ≤ vec_capacity l.out;
}
