use Rattle.machine_model.proofs.EventsTell.{settle-adds, settle-tells, step-tells, replay-tells}
use Rattle.machine_model.proofs.laws.replays_tell_kin.Goals as goal

pub returns : goal.returns
returns c = record { adds = settle-adds; settling = settle-tells; one_step = step-tells; replay = replay-tells }
