use Rattle.std.proofs.Common.{◌≡◌, ◌++◌, take}
use Rattle.std.specs.List.{flat_map}
use Rattle.swap_store.specs.Batch.{swapped_block}
use Rattle.swap_store.proofs.blocks.put_files.Given as goal

abbrev pub invariant-loop-file : goal.invariant-loop-file
invariant-loop-file l = l.bytes.items ≡ l.fn.bytes.items ++ flat_map swapped_block (take l.file-index l.files)
