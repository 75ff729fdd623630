use Rattle.engine_session.proofs.EachKind.{built}
use Rattle.engine_session.proofs.working.each_kind_is_built.Goals as goal

pub returns : goal.returns
returns c = built c.args.kind.now
