use Rattle.std.proofs.Common.{◌≡◌, ◌-◌, ◌^◌, length, take}
use Rattle.std.specs.Prelude.{min}
use Rattle.prov_store.specs.Blocks.{blocks_of}
use Rattle.prov_store.proofs.blocks.size_of_all.Given as goal

abbrev pub invariant-loop-event : goal.invariant-loop-event
invariant-loop-event l = l.size ≡ min (length (blocks_of (take l.event-index l.events))) (2 ^ 64 - 1)
