use Rattle.engine_queues.proofs.Due.{pick-given}
use Rattle.engine_queues.proofs.picking.picks_are_given.Goals as goal

pub returns : goal.returns
returns c = pick-given
