use Rattle.run_law.proofs.Begins.{begins, opened_begins}
use Rattle.run_law.proofs.laws.run_begins.Goals as goal

pub returns : goal.returns
returns g c = record { begun = begins g.D.Disk.moment g.D.Disk.images; opened = opened_begins g.D.Disk.moment g.D.Disk.images }
