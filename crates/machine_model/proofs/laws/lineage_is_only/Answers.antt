use Rattle.machine_model.proofs.OnlyLineage.{lineage-only}
use Rattle.machine_model.proofs.laws.lineage_is_only.Goals as goal

pub returns : goal.returns
returns c = lineage-only
