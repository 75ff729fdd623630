use Rattle.machine_model.proofs.Ordered.{goes_before-irreflexive, goes_before-transitive, goes_before-total}
use Rattle.machine_model.proofs.laws.order_is_total.Goals as goal

pub returns : goal.returns
returns c = record { irreflexive = goes_before-irreflexive; transitive = goes_before-transitive; total = goes_before-total }
