use Rattle.engine_choice.proofs.Sessions.{takings-are-sessions}
use Rattle.engine_choice.proofs.laws.takings_are_sessions.Goals as goal

pub returns : goal.returns
returns c = takings-are-sessions c.picks_may_be_taken.ensures c.one_connection_has_files.ensures
