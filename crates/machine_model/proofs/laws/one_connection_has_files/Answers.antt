use Rattle.machine_model.proofs.Numbered.{one-has}
use Rattle.machine_model.proofs.laws.one_connection_has_files.Goals as goal

pub returns : goal.returns
returns c = one-has
