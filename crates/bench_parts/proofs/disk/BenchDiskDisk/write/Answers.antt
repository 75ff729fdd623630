use Rattle.std.proofs.Common.{arith}
use Rattle.bench_parts.proofs.Nothing.{since_nothing}
use Rattle.bench_parts.proofs.disk.BenchDiskDisk.write.Goals as goal

pub returns-in_err-begin-clause-images : goal.returns-in_err-begin-clause-images
returns-in_err-begin-clause-images c = since_nothing _ _ _ _ c.begin.ensures.later

pub returns-clause-images : goal.returns-clause-images
returns-clause-images c = since_nothing _ _ _ _ (omega (arith, c.begin.ensures.later, c.answer.ensures.moment))
