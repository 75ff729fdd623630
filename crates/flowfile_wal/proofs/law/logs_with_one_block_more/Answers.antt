use Rattle.flowfile_wal.proofs.Files.{with_one_block}
use Rattle.flowfile_wal.proofs.law.logs_with_one_block_more.Goals as goal

pub returns : goal.returns
returns c = with_one_block
