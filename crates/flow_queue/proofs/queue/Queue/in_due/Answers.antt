use Rattle.std.proofs.Common.{length, min, map, ◌∙◌, ap, arith}
use Rattle.std.specs.List.{reduce}
use Rattle.flow_queue.specs.Swapping.{number_of_batch}
use Rattle.flow_queue.proofs.Batches.{lowest-in}
use Rattle.flow_queue.proofs.queue.Queue.in_due.Goals as goal

pub returns-then-len-most : goal.returns-then-len-most
returns-then-len-most c =
    c.lowest_number.ensures ∙ ap (λ q. reduce min (map number_of_batch q.batches)) c.self.view_is
    ∙ lowest-in c.args.self.now (omega (arith, c.len.ensures.len, c.from-most.ensures, c.if-len-most.true, ap (λ q. length q.files) c.self.view_is, ap (λ q. q.limits.swap) c.self.view_is))
