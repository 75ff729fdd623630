use Rattle.machine_model.proofs.Picked.{picks-taken}
use Rattle.machine_model.proofs.laws.picks_may_be_taken.Goals as goal

pub returns : goal.returns
returns c = picks-taken
