use Rattle.machine_model.proofs.EventRows.{settle-numbers, step-numbers, replay-numbers, replay-adds, replay-line}
use Rattle.machine_model.proofs.laws.replays_number_events.Goals as goal

pub returns : goal.returns
returns c = record { settling = settle-numbers; one_step = step-numbers; replay = replay-numbers; adds = replay-adds; line = replay-line }
