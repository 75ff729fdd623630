use Rattle.machine_model.proofs.Seen.{views-count}
use Rattle.machine_model.proofs.laws.views_count_all.Goals as goal

pub returns : goal.returns
returns c = views-count
