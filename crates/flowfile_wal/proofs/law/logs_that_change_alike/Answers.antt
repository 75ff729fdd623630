use Rattle.flowfile_wal.proofs.Files.{alike}
use Rattle.flowfile_wal.proofs.law.logs_that_change_alike.Goals as goal

pub returns : goal.returns
returns c = alike
