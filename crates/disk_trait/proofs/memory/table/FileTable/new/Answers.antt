use Rattle.std.proofs.Common.{ap}
use Rattle.std.specs.Map.{lookup}
use Rattle.disk_trait.proofs.FileTables.{bytes_at, first_at}
use Rattle.disk_trait.proofs.memory.table.FileTable.new.Goals as goal

pub returns-clause-bytes : goal.returns-clause-bytes
returns-clause-bytes c = λ f. bytes_at _ f _ (ap (lookup _) c.new.ensures.empty)

pub returns-clause-first : goal.returns-clause-first
returns-clause-first c = λ f. first_at _ f _ (ap (lookup _) c.new.ensures.empty)
