use Rattle.std.proofs.Common.{◌∙◌}
use Rattle.settlement.proofs.SortedNumbers.{sorted-ascending}
use Rattle.settlement.proofs.events.ascending.Goals as goal

pub returns : goal.returns
returns c = c.from.ensures ∙ sorted-ascending c.args.numbers.items c.sort.new.self.items c.in_ok-sort.ensures.permutation c.in_ok-sort.ensures.sorted
