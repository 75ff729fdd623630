use Rattle.flowfile_wal.proofs.Beginnings.{begun_in}
use Rattle.flowfile_wal.proofs.law.logs_that_were_begun.Goals as goal

pub returns : goal.returns
returns c = begun_in
