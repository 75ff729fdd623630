use Rattle.std.proofs.Common.{◌∙◌, ap}
use Rattle.disk_trait.specs.MemoryHeld.{left_ends}
use Rattle.disk_trait.specs.MemoryHistory.{past_of}
use Rattle.disk_trait.specs.MemoryTable.{bytes_of}
use Rattle.disk_trait.proofs.DiskPicks.{present_picked}
use Rattle.disk_trait.proofs.memory.MemoryDisk.stopped.Goals as goal

pub returns-clause-present : goal.returns-clause-present
returns-clause-present c = λ new now.
    ap bytes_of c.new.ensures.table
    ∙ present_picked (past_of c.args.self.now.history) c.args.self.now.history.past c.args.pick c.args.at (bytes_of c.in_ok-table.table) new now c.in_ok-table.ensures.image.picked

pub new-requires-clause-ends : goal.new-requires-clause-ends
new-requires-clause-ends c = λ f big.
    left_ends (past_of c.args.self.now.history) c.args.self.now.history.past c.args.at (bytes_of c.in_ok-table.table) f c.in_ok-table.ensures.image.left big
