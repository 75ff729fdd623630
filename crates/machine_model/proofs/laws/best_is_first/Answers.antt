use Rattle.machine_model.proofs.OnlyOrder.{best-only}
use Rattle.machine_model.proofs.Ordered.{best-first}
use Rattle.machine_model.proofs.laws.best_is_first.Goals as goal

pub returns : goal.returns
returns c = record { first = best-first; only = best-only }
