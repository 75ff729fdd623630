use Rattle.machine_model.proofs.Replayed.{replay-append, replay-push}
use Rattle.machine_model.proofs.laws.replay_goes_on.Goals as goal

pub returns : goal.returns
returns c = record { one_more = replay-push; joined = replay-append }
