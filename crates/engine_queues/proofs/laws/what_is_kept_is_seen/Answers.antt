use Rattle.engine_queues.proofs.Besides.{none-is-out}
use Rattle.engine_queues.proofs.KeptQueues.{kept-seen}
use Rattle.engine_queues.proofs.Shown.{held-sizes, queues-seen, queues-shown}
use Rattle.engine_queues.proofs.laws.what_is_kept_is_seen.Goals as goal

pub returns : goal.returns
returns c = record { seen = kept-seen; shown = queues-shown; queues = queues-seen; none_out = none-is-out; sizes = held-sizes }
