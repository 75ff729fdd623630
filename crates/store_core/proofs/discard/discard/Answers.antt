use Rattle.store_core.proofs.Discarding.{since_discarded}
use Rattle.store_core.proofs.discard.discard.Goals as goal

pub returns-clause-images : goal.returns-clause-images
returns-clause-images g c =
    since_discarded g.D.Disk.moment g.D.Disk.images c.args.current c.args.disk.now c.shorten_logs.new.disk c.empty_files.new.disk c.shorten_logs.ensures.images c.empty_files.ensures.images
