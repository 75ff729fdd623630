use Rattle.engine_queues.proofs.Besides.{expired-are-at-rest}
use Rattle.engine_queues.proofs.laws.what_expires_is_at_rest.Goals as goal

pub returns : goal.returns
returns c = expired-are-at-rest
