use Rattle.engine_session.proofs.Machines.{machines-files-are-live}
use Rattle.engine_session.proofs.laws.taken_files_are_live.Goals as goal

pub returns : goal.returns
returns c = machines-files-are-live c.what_is_kept_is_a_state.ensures.valid c.what_is_kept_is_a_state.ensures.live
