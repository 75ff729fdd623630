use Rattle.std.proofs.Common.{ap, is_err}
use Rattle.disk_trait.proofs.DiskCalls.{write_fits}
use Rattle.disk_trait.proofs.memory.MemoryDiskDisk.write.Goals as goal

pub returns-in-Ok-clause-fits : goal.returns-in-Ok-clause-fits
returns-in-Ok-clause-fits c =
    write_fits c.write.result c.args.self.now.history.table c.write.new.self.table c.args.file c.args.at c.args.bytes.now (ap is_err c.in-Ok.is) c.requires c.write.ensures.written
