use Rattle.store_core.proofs.Making.{kept_unmade, state_unmade}
use Rattle.store_core.proofs.law.files_of_no_store_stand_for_a_new_one.Goals as goal

pub returns-clause-kept : goal.returns-clause-kept
returns-clause-kept c = kept_unmade

pub returns-clause-state : goal.returns-clause-state
returns-clause-state c = state_unmade
