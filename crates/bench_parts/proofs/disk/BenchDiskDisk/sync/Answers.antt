use Rattle.bench_parts.proofs.Nothing.{since_nothing}
use Rattle.bench_parts.proofs.disk.BenchDiskDisk.sync.Goals as goal

pub returns-clause-images : goal.returns-clause-images
returns-clause-images c = since_nothing _ _ _ _ c.begin.ensures.later
