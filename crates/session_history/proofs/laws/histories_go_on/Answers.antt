use Rattle.session_history.proofs.Played.{goes_on}
use Rattle.session_history.proofs.laws.histories_go_on.Goals as goal

pub returns : goal.returns
returns c = goes_on
