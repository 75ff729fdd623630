use Rattle.run_law.proofs.Begins.{failed_opening}
use Rattle.run_law.proofs.laws.failed_openings_end_a_run.Goals as goal

pub returns : goal.returns
returns g c = failed_opening g.D.Disk.moment g.D.Disk.images g.D.Disk.tells g.D.Disk.held
