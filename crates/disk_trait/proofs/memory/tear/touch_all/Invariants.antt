use Rattle.std.proofs.Common.{take}
use Rattle.disk_trait.specs.MemoryStop.{touched_by, MarksOffsets}
use Rattle.disk_trait.proofs.memory.tear.touch_all.Given as goal

abbrev pub invariant-loop-call : goal.invariant-loop-call
invariant-loop-call l = MarksOffsets l.marks (touched_by l.name (take l.call-index l.calls))
