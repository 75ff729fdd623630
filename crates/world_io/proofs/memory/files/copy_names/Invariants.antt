use Rattle.std.proofs.Common.{◌≡◌, map, take}
use Rattle.world_io.proofs.memory.files.copy_names.Given as goal

abbrev pub invariant-loop-name : goal.invariant-loop-name
invariant-loop-name l = l.names.items ≡ map (λ file. file.0) (take l.name-index l.files)
