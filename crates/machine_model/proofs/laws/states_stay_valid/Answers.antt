use Rattle.machine_model.proofs.Validity.{new-valid, step-valid, replay-valid}
use Rattle.machine_model.proofs.laws.states_stay_valid.Goals as goal

pub returns : goal.returns
returns c = record { new = new-valid; one_step = step-valid; replay = replay-valid }
