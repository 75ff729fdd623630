use Rattle.std.proofs.Common.{◌≡◌, map}
use Rattle.store_core.specs.Kept.{least_of}
use Rattle.store_core.proofs.reading.least_batch.Given as goal

abbrev pub invariant-loop-batch : goal.invariant-loop-batch
invariant-loop-batch l = l.least ≡ least_of (map (λ b. b.now.batch) l.yielded)
