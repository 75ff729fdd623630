use Rattle.std.proofs.Common.{List, refl, sym, ap, subst, ◌∙◌}
use Rattle.flowfile_record.specs.Stored.{Kept}
use Rattle.kept_state.specs.Applied.{left_after}
use Rattle.flow_queue.specs.Queue.{QueueState}
use Rattle.engine_queues.specs.Queues.{AreQueuesOf}
use Rattle.engine_queues.specs.Settling.{queues_without, HasFiles}
use Rattle.engine_queues.proofs.Changing.{leaving}
use Rattle.engine_queues.proofs.queues.Queues.expire.Goals as goal

pub take_out-requires-clause-files : goal.take_out-requires-clause-files
take_out-requires-clause-files c =
    let k = c.requires.1 in
    let may = c.requires.3 in
    let after : Kept = record k { files = left_after c.args.numbers.now k.files } in
    let went = leaving c.requires.0 c.requires.2 c.args.numbers.now k after c.args.connection c.args.self.now may.of_kept may.connections may.consistent may.distinct may.active refl in
    subst (λ (l : List QueueState). HasFiles c.args.connection c.args.numbers.now l) (sym c.self.view_is) went.1

pub returns : goal.returns
returns c flow k after out may files =
    let went = leaving flow out c.args.numbers.now k after c.args.connection c.args.self.now may.of_kept may.connections may.consistent may.distinct may.active files in
    let new = c.take_out.ensures.queues ∙ ap (queues_without c.args.connection c.args.numbers.now) c.self.view_is in
    subst (λ (l : List QueueState). AreQueuesOf flow after out l) (sym new) went.0
