use Rattle.std.proofs.Common.{◌≡◌, ◌+◌, length, take}
use Rattle.std.specs.List.{flat_map}
use Rattle.record_codec.specs.ActiveFile.{active_file}
use Rattle.record_codec.proofs.entry.size.placed_size.Given as goal

abbrev pub invariant-loop-one : goal.invariant-loop-one
invariant-loop-one l = l.size ≡ 4 + length (flat_map active_file (take l.one-index l.placed))
