use Rattle.machine_model.proofs.GoesOn.{step-loses, replay-loses}
use Rattle.machine_model.proofs.laws.names_are_lost_by_taking.Goals as goal

pub returns : goal.returns
returns c = record { one_step = step-loses; replay = replay-loses }
