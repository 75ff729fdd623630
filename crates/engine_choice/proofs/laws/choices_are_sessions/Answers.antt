use Rattle.engine_choice.proofs.Sessions.{choices-are-sessions}
use Rattle.engine_choice.proofs.laws.choices_are_sessions.Goals as goal

pub returns : goal.returns
returns c = choices-are-sessions c.picks_may_be_taken.ensures c.one_connection_has_files.ensures
