use Rattle.world_real.proofs.Nothing.{since_nothing}
use Rattle.world_real.proofs.store.StoreFolderDisk.cut.Goals as goal

pub returns-clause-images : goal.returns-clause-images
returns-clause-images g c = since_nothing _ _ _ _ c.cut_to-answer.ensures.later
