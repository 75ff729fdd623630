use Rattle.engine_session.proofs.Stepping.{sessions-are-steps, settled-sessions-are-steps}
use Rattle.engine_session.proofs.laws.sessions_are_steps.Goals as goal

pub returns-clause-steps : goal.returns-clause-steps
returns-clause-steps c = sessions-are-steps

pub returns-clause-settled : goal.returns-clause-settled
returns-clause-settled c = settled-sessions-are-steps
