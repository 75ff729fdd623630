use Rattle.session_history.proofs.Played.{are_replays}
use Rattle.session_history.proofs.laws.histories_are_replays.Goals as goal

pub returns : goal.returns
returns c = are_replays c.replay_goes_on.ensures.one_more
