use Rattle.flowfile_record.proofs.FieldLaws.{only_one}
use Rattle.record_codec.specs.Snapshot.{swap_batch, IsBatch}
use Rattle.record_codec.specs.SnapshotReading.{batch_at}
use Rattle.record_codec.proofs.Snapshots.{batch_is}
use Rattle.record_codec.proofs.snapshot.batches_have_one_encoding.Goals as goal

pub returns : goal.returns
returns c = only_one batch_at swap_batch IsBatch batch_is
