use Rattle.engine_session.proofs.Ends.{may_commit}
use Rattle.engine_session.proofs.ending.end_session.Goals as goal

pub returns-clause-may : goal.returns-clause-may
returns-clause-may c flow kept given left may keeps = may_commit flow kept given c.args.processor c.args.connection c.args.taken c.args.done may left keeps
