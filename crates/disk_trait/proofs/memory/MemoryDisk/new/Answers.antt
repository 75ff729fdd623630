use Rattle.std.proofs.Common.{◌∙◌}
use Rattle.disk_trait.proofs.memory.MemoryDisk.new.Goals as goal

pub returns-clause-synced : goal.returns-clause-synced
returns-clause-synced c = λ files left. c.new-2.ensures.synced files left ∙ (λ i f. c.new.ensures.bytes f i)
