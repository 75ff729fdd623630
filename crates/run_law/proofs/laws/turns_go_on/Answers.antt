use Rattle.run_law.proofs.Turns.{steps_come_next, steps_stay}
use Rattle.run_law.proofs.laws.turns_go_on.Goals as goal

pub returns : goal.returns
returns c = record { next = steps_come_next; later = steps_stay }
