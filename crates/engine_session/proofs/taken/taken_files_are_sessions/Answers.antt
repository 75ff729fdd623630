use Rattle.engine_session.proofs.TakenSessions.{taken-are-sessions}
use Rattle.engine_session.proofs.taken.taken_files_are_sessions.Goals as goal

pub returns : goal.returns
returns c =
    let laws = c.what_is_kept_is_a_state.ensures in
    taken-are-sessions c.one_connection_has_files.ensures laws.valid laws.queued laws.live
