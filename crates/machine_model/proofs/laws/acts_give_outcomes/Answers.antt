use Rattle.machine_model.proofs.Acted.{act-ends}
use Rattle.machine_model.proofs.ActedWhole.{act-gives}
use Rattle.machine_model.proofs.laws.acts_give_outcomes.Goals as goal

pub returns : goal.returns
returns c = record { in_turn = act-ends; whole = act-gives }
