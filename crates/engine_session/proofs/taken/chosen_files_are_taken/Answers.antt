use Rattle.engine_session.proofs.Chosen.{chosen-are-taken}
use Rattle.engine_session.proofs.taken.chosen_files_are_taken.Goals as goal

pub returns : goal.returns
returns c =
    let laws = c.what_is_kept_is_a_state.ensures in
    chosen-are-taken c.picks_may_be_taken.ensures c.one_connection_has_files.ensures laws.valid laws.queued laws.live
