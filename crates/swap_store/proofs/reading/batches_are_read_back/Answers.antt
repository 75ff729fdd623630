use Rattle.swap_store.proofs.ReadBack.{read_back}
use Rattle.swap_store.proofs.reading.batches_are_read_back.Goals as goal

pub returns : goal.returns
returns c = read_back
