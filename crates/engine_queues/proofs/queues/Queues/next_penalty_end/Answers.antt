use Rattle.std.proofs.Common.{min, nat_lt, map, ap, ◌∙◌}
use Rattle.std.specs.Prelude.{filter}
use Rattle.std.specs.List.{filter_map, reduce}
use Rattle.machine_model.specs.View.{FileView}
use Rattle.flow_queue.specs.Queue.{QueueState, queue_as_seen, next_penalty_end}
use Rattle.engine_queues.proofs.Least.{least-parts, filtered-parts}
use Rattle.engine_queues.proofs.queues.Queues.next_penalty_end.Goals as goal

pub returns : goal.returns
returns c =
    let moment = c.args.moment in
    c.next_end.ensures
    ∙ ap (λ qs. reduce min (filter_map (λ (queue : QueueState). next_penalty_end moment (queue_as_seen queue).active) qs)) (c.deref.ensures.value ∙ c.self.view_is)
    ∙ least-parts (λ (queue : QueueState). filter (nat_lt moment) (map (λ (file : FileView). file.penalty_end) (queue_as_seen queue).active)) c.args.self.now
    ∙ ap (reduce min) (filtered-parts (λ (queue : QueueState). (queue_as_seen queue).active) (λ (file : FileView). file.penalty_end) (nat_lt moment) c.args.self.now)
