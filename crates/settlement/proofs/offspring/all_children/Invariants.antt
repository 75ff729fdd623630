use Rattle.std.proofs.Common.{◌≡◌, length, map, take}
use Rattle.std.specs.List.{range_with_len}
use Rattle.settlement.specs.Telling.{children_of}
use Rattle.settlement.proofs.offspring.all_children.Given as goal

abbrev pub invariant-loop-file : goal.invariant-loop-file
invariant-loop-file l = l.all.items ≡ map (children_of l.kinship (take l.file-index l.files)) (range_with_len 0 (length l.files))
