use Rattle.std.proofs.Common.{◌≡◌, ◌+◌, ◌-◌, ◌≤◌, ◌++◌, List, length, take, drop}
use Rattle.prov_store.specs.Blocks.{blocks_of, AreEventParts}
use Rattle.prov_store.specs.declared.blocks.Part.{Part}
use Rattle.prov_store.proofs.blocks.EventBlocks.new.Given as goal

abbrev pub invariant-loop-done : goal.invariant-loop-done
invariant-loop-done l = record {
  there : l.done ≤ length l.fn.events;
  bytes : l.bytes.items ≡ blocks_of (take l.done l.fn.events);
  parts : (more : List Part) → AreEventParts (l.fn.first - 1 + l.done) more (drop l.done l.fn.events) → AreEventParts (l.fn.first - 1) (l.parts.items ++ more) l.fn.events;
}

abbrev pub decreases-loop-done : goal.decreases-loop-done
decreases-loop-done l = length l.fn.events - l.done
