use Rattle.std.proofs.Common.{◌∙◌}
use Rattle.flow_query.proofs.Arrivals.{waiting_new}
use Rattle.flow_query.proofs.waiting.queue_of.Goals as goal

pub put_all-requires-clause-new : goal.put_all-requires-clause-new
put_all-requires-clause-new c = waiting_new c.args.waiting.items c.reserve.new.self.items c.requires (c.reserve.ensures.items ∙ c.new-queue.ensures.items)
