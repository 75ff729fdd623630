use Rattle.std.proofs.Common.{◌≡◌, ◌+◌, length, take}
use Rattle.std.specs.List.{flat_map}
use Rattle.flowfile_record.specs.Encoding.{text}
use Rattle.record_codec.proofs.texts.texts_size.Given as goal

abbrev pub invariant-loop-text : goal.invariant-loop-text
invariant-loop-text l = l.size ≡ 4 + length (flat_map text (take l.text-index l.texts))
