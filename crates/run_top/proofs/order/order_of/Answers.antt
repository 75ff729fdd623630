use Rattle.run_top.proofs.Ordered.{order_in_range}
use Rattle.run_top.proofs.order.order_of.Goals as goal

pub returns-in-Ok-clause-range : goal.returns-in-Ok-clause-range
returns-in-Ok-clause-range c = order_in_range c.in-Ok.command c.order_in.result c.order_in.ensures c.in-Ok.ensures.range
