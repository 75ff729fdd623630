use Rattle.std.proofs.Common.{sym, ◌∙◌, ap, subst}
use Rattle.std.specs.Prelude.{All}
use Rattle.flow_queue.specs.Entering.{queue_joined_by}
use Rattle.flow_queue.specs.Queue.{IsApart}
use Rattle.flow_queue.proofs.queue.Queue.swap_in.Goals as goal

pub put_all-requires-clause-may : goal.put_all-requires-clause-may
put_all-requires-clause-may c = record {
  apart = subst (λ held. All (λ file. IsApart file held) c.args.files.items) (sym (ap (λ q. q.files) c.leave_batch.ensures)) c.requires.files.apart;
  distinct = c.requires.files.distinct;
}

pub returns : goal.returns
returns c = c.put_all.ensures ∙ ap (queue_joined_by c.args.files.items) c.leave_batch.ensures
