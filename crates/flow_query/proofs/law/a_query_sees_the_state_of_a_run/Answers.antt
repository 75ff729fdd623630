use Rattle.flow_query.proofs.OwnFlow.{kept_seen_too, new_seen_too, state_seen_too}
use Rattle.flow_query.proofs.law.a_query_sees_the_state_of_a_run.Goals as goal

pub returns-clause-kept : goal.returns-clause-kept
returns-clause-kept c = kept_seen_too

pub returns-clause-state : goal.returns-clause-state
returns-clause-state c = state_seen_too

pub returns-clause-new : goal.returns-clause-new
returns-clause-new c = new_seen_too
