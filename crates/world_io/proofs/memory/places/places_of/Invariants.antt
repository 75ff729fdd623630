use Rattle.std.proofs.Common.{Some, take}
use Rattle.world_io.specs.Memory.{Indexes}
use Rattle.world_io.proofs.memory.places.places_of.Given as goal

abbrev pub invariant-loop-place : goal.invariant-loop-place
invariant-loop-place l = Indexes (Some l.places) (take l.place l.files)
