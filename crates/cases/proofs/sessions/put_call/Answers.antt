use Rattle.std.proofs.Common.{refl}
use Rattle.std.specs.List.{IsDistinct}
use Rattle.cases.proofs.sessions.put_call.Goals as goal

-- the places 0 and 1 differ
pub create_joined-requires-clause-distinct : goal.create_joined-requires-clause-distinct
unfolding IsDistinct
create_joined-requires-clause-distinct c = ((refl, tt), (tt, tt))
