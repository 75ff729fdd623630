-- The numbers of what words ask for stand in their ranges.
use Rattle.std.proofs.Common.{◌≡◌, sym, subst}
use Rattle.flow_words.specs.Words.{IsInRange}
use Rattle.flow_words.specs.declared.command.Command.{Command}
use Rattle.flow_words.specs.declared.command.Command.TheVariants.{Run, Trial, Lineage, Content, Queues, Events, Check}
use Rattle.run_top.specs.Words.{IsOrderInRange, order_in}
use Rattle.run_top.specs.declared.order.Order.{Order}

in_range : (command : Command) → IsInRange command → IsOrderInRange (order_in command)
in_range (Run options) range = range
in_range (Trial count threads) range = (range.0, range.1)
in_range (Lineage id) range = tt
in_range (Content id) range = tt
in_range Queues range = tt
in_range Events range = tt
in_range Check range = tt

pub order_in_range : (command : Command) (order : Order) → order ≡ order_in command → IsInRange command → IsOrderInRange order
order_in_range command order is range = subst IsOrderInRange (sym is) (in_range command range)
