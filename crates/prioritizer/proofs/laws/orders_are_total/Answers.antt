use Rattle.prioritizer.specs.LawsHold.{order_cmp-total, order_cmp-sorts}
use Rattle.prioritizer.proofs.laws.orders_are_total.Goals as goal

pub returns : goal.returns
returns c = record { total = order_cmp-total; sorts = order_cmp-sorts }
