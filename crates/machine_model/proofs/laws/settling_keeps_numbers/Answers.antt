use Rattle.machine_model.proofs.SettlingKeeps.{settle-keeps}
use Rattle.machine_model.proofs.laws.settling_keeps_numbers.Goals as goal

pub returns : goal.returns
returns c = settle-keeps
