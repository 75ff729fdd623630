use Rattle.machine_model.proofs.OnlyOrder.{in_order-only}
use Rattle.machine_model.proofs.Ordered.{in_order-permutes, in_order-ordered}
use Rattle.machine_model.proofs.laws.order_sorts.Goals as goal

pub returns : goal.returns
returns c = record { same_files = in_order-permutes; ordered = in_order-ordered; only = in_order-only }
