use Rattle.engine_session.proofs.Stays.{taken-stays}
use Rattle.engine_session.proofs.taken.taken_files_stay.Goals as goal

pub returns : goal.returns
returns c = taken-stays
