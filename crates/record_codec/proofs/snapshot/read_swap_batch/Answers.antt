use Rattle.std.proofs.Common.{arith}
use Rattle.record_codec.specs.Snapshot.{swap_batch, IsBatch}
use Rattle.record_codec.specs.SnapshotReading.{batch_at}
use Rattle.record_codec.proofs.Exacts.{is_found_exactly, is_only_exactly}
use Rattle.record_codec.proofs.Snapshots.{batch_is}
use Rattle.record_codec.proofs.snapshot.read_swap_batch.Goals as goal

pub returns-clause-found : goal.returns-clause-found
returns-clause-found c = is_found_exactly batch_at swap_batch IsBatch batch_is c.args.bytes.now c.read_batch_answer.result (λ i. omega (arith, c.type_inv.bytes i)) c.read_batch_answer.ensures

pub returns-clause-only : goal.returns-clause-only
returns-clause-only c = is_only_exactly batch_at swap_batch IsBatch batch_is c.args.bytes.now c.read_batch_answer.result c.read_batch_answer.ensures
