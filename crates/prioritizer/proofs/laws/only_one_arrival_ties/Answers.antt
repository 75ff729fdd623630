use Rattle.prioritizer.specs.LawsHold.{order_cmp-ties}
use Rattle.prioritizer.proofs.laws.only_one_arrival_ties.Goals as goal

pub returns : goal.returns
returns c = order_cmp-ties
