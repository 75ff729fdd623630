use Rattle.disk_trait.specs.Memory.{durable, state_after}
use Rattle.disk_trait.specs.MemoryStop.{touched_by}
use Rattle.disk_trait.specs.MemoryTable.{first_of}
use Rattle.disk_trait.proofs.DiskImages.{DrawsUpTo}
use Rattle.disk_trait.proofs.memory.table.FileTable.image.Given as goal

abbrev pub invariant-loop-name : goal.invariant-loop-name
invariant-loop-name l =
    DrawsUpTo l.self l.name-iterator (λ f. (state_after f (durable (first_of l.self f)) l.calls).held) (λ f i. touched_by f l.torn i) l.seed l.x l.image
