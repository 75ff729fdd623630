use Rattle.prioritizer.specs.LawsHold.{order_cmp-decided}
use Rattle.prioritizer.proofs.laws.first_teller_decides.Goals as goal

pub returns : goal.returns
returns c = order_cmp-decided
