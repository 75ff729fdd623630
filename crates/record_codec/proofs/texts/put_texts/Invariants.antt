use Rattle.std.proofs.Common.{◌≡◌, ◌+◌, ◌≤◌, ◌++◌, length, take}
use Rattle.std.specs.Prelude.{vec_len, vec_capacity}
use Rattle.std.specs.List.{flat_map}
use Rattle.std.specs.Int.{w32, to_be_bytes}
use Rattle.flowfile_record.specs.Encoding.{text}
use Rattle.record_codec.proofs.texts.put_texts.Given as goal

abbrev pub invariant-loop-text : goal.invariant-loop-text
invariant-loop-text l = record {
  items : l.out.items ≡ l.fn.out.items ++ to_be_bytes w32 (length l.texts) ++ flat_map text (take l.text-index l.texts);
  len : vec_len l.out ≡ vec_len l.fn.out + 4 + length (flat_map text (take l.text-index l.texts));
  capacity : vec_capacity l.fn.out ≤ vec_capacity l.out;
}
