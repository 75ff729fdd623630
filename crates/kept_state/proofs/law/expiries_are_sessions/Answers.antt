use Rattle.kept_state.proofs.Expiring.{expiry_settles, expiry_live}
use Rattle.kept_state.proofs.law.expiries_are_sessions.Goals as goal

pub returns-clause-may : goal.returns-clause-may
returns-clause-may c = expiry_settles

pub returns-clause-live : goal.returns-clause-live
returns-clause-live c = expiry_live
