use Rattle.checkpoint_store.proofs.ReadBack.{read_back}
use Rattle.checkpoint_store.proofs.reading.snapshots_are_read_back.Goals as goal

pub returns : goal.returns
returns c = read_back
