use Rattle.std.proofs.Common.{is_some, ap}
use Rattle.flow_queue.proofs.queue.Queue.check_out.Goals as goal

pub mark-requires : goal.mark-requires
mark-requires c = ap is_some c.requires
