use Rattle.std.proofs.Common.{◌≡◌, ◌++◌, take}
use Rattle.prov_store.specs.Blocks.{blocks_of}
use Rattle.prov_store.proofs.blocks.put_blocks.Given as goal

abbrev pub invariant-loop-event : goal.invariant-loop-event
invariant-loop-event l = l.bytes.items ≡ l.fn.bytes.items ++ blocks_of (take l.event-index l.events)
