use Rattle.engine_session.proofs.Handed.{taken-files-are-the-machines, taken-files-are-there, taken-files-may-be-handed}
use Rattle.engine_session.proofs.laws.taken_files_are_handed.Goals as goal

pub returns-clause-may : goal.returns-clause-may
returns-clause-may c = taken-files-may-be-handed

pub returns-clause-machine : goal.returns-clause-machine
returns-clause-machine c = taken-files-are-the-machines

pub returns-clause-there : goal.returns-clause-there
returns-clause-there c = taken-files-are-there
