use Rattle.world_real.proofs.Nothing.{since_nothing}
use Rattle.world_real.proofs.store.StoreFolderDisk.sync.Goals as goal

pub returns-clause-images : goal.returns-clause-images
returns-clause-images g c = since_nothing _ _ _ _ c.sync_files-answer.ensures.later
