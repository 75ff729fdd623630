use Rattle.bench_parts.proofs.Nothing.{since_nothing}
use Rattle.bench_parts.proofs.disk.BenchDiskDisk.cut.Goals as goal

pub returns-in_err-begin-clause-images : goal.returns-in_err-begin-clause-images
returns-in_err-begin-clause-images c = since_nothing _ _ _ _ c.begin.ensures.later

pub returns-clause-images : goal.returns-clause-images
returns-clause-images c = since_nothing _ _ _ _ c.begin.ensures.later
