use Rattle.std.proofs.Common.{refl}
use Rattle.engine_steps.proofs.engine.Engine.next.Goals as goal

pub returns-clause-rest : goal.returns-clause-rest
returns-clause-rest c no_session = absurd (no_session c.in_ok-begin.field-0 refl)
