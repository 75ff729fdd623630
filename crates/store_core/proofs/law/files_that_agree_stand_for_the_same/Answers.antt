use Rattle.store_core.proofs.Agreeing.{agrees_with_itself, agrees_in_turn, agreeing_kept, agreeing_state}
use Rattle.store_core.proofs.law.files_that_agree_stand_for_the_same.Goals as goal

pub returns-clause-reflexive : goal.returns-clause-reflexive
returns-clause-reflexive c = agrees_with_itself

pub returns-clause-transitive : goal.returns-clause-transitive
returns-clause-transitive c = agrees_in_turn

pub returns-clause-kept : goal.returns-clause-kept
returns-clause-kept c = agreeing_kept

pub returns-clause-state : goal.returns-clause-state
returns-clause-state c = agreeing_state
