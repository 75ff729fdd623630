use Rattle.machine_model.proofs.Stepped.{step-keeps, replay-keeps}
use Rattle.machine_model.proofs.laws.replays_keep_numbers.Goals as goal

pub returns : goal.returns
returns c = record { one_step = step-keeps; replay = replay-keeps }
