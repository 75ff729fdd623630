use Rattle.session_history.proofs.Alone.{come_in_turn}
use Rattle.session_history.proofs.laws.histories_come_in_turn.Goals as goal

pub returns : goal.returns
returns c = come_in_turn c.what_is_kept_is_seen.ensures.none_out
