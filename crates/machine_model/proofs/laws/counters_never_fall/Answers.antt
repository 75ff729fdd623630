use Rattle.machine_model.proofs.GoesOn.{step-goes-on, replay-goes-on}
use Rattle.machine_model.proofs.laws.counters_never_fall.Goals as goal

pub returns : goal.returns
returns c = record { one_step = step-goes-on; replay = replay-goes-on }
