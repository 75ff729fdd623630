use Rattle.disk_trait.proofs.Moments.{and_syncs}
use Rattle.disk_trait.proofs.synced.cut_synced.Goals as goal

pub returns-clause-images : goal.returns-clause-images
returns-clause-images g c =
    and_syncs g.D.Disk.moment g.D.Disk.images c.args.disk.now c.cut.new.self c.sync.new.self _ c.cut.ensures.images c.sync.ensures.images
