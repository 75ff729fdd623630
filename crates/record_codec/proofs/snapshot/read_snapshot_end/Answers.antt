use Rattle.std.proofs.Common.{arith}
use Rattle.record_codec.specs.Snapshot.{ending, IsEnding}
use Rattle.record_codec.specs.SnapshotReading.{ending_at}
use Rattle.record_codec.proofs.Exacts.{is_found_exactly, is_only_exactly}
use Rattle.record_codec.proofs.Snapshots.{ending_is}
use Rattle.record_codec.proofs.snapshot.read_snapshot_end.Goals as goal

pub returns-clause-found : goal.returns-clause-found
returns-clause-found c = is_found_exactly ending_at ending IsEnding ending_is c.args.bytes.now c.read_end_answer.result (λ i. omega (arith, c.type_inv.bytes i)) c.read_end_answer.ensures

pub returns-clause-only : goal.returns-clause-only
returns-clause-only c = is_only_exactly ending_at ending IsEnding ending_is c.args.bytes.now c.read_end_answer.result c.read_end_answer.ensures
