use Rattle.session_history.proofs.Moves.{begin}
use Rattle.session_history.proofs.laws.histories_begin.Goals as goal

pub returns : goal.returns
returns c = begin
