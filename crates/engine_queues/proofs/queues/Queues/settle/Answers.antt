use Rattle.std.proofs.Common.{ℕ, List, map, sym, ap, subst, ◌∙◌}
use Rattle.flowfile_record.specs.Stored.{kept_of}
use Rattle.flowfile_record.specs.declared.stored.Placed.{Placed}
use Rattle.flow_queue.specs.Queue.{QueueState}
use Rattle.engine_queues.specs.Beside.{out_without}
use Rattle.engine_queues.specs.Queues.{AreQueuesOf}
use Rattle.engine_queues.specs.Settling.{as_kept, queues_without, queues_with, HasFiles, MayAllJoin}
use Rattle.engine_queues.proofs.Settled.{settled_in}
use Rattle.engine_queues.proofs.queues.Queues.settle.Goals as goal

pub take_out-requires-clause-files : goal.take_out-requires-clause-files
take_out-requires-clause-files c =
    let r = c.requires.kept in
    let steps = settled_in r.0 r.1 r.2 c.args.connection c.args.settled c.args.self.now (kept_of c.args.stored.now) r.3 r.4 c.requires.room in
    let leave = subst (λ (l : List QueueState). HasFiles c.args.connection c.args.settled.gone l) (sym c.self.view_is) steps.leave in
    subst (λ (ns : List ℕ). HasFiles c.args.connection ns c.self.inside.list.items) (sym c.as_slice-gone.ensures) leave

pub put_in-requires-clause-files : goal.put_in-requires-clause-files
put_in-requires-clause-files c =
    let r = c.requires.kept in
    let steps = settled_in r.0 r.1 r.2 c.args.connection c.args.settled c.args.self.now (kept_of c.args.stored.now) r.3 r.4 c.requires.room in
    let files = c.args.stored.now.files.items in
    let fewer = c.take_out.ensures.queues ∙ ap (λ (ns : List ℕ). queues_without c.args.connection ns c.self.inside.list.items) c.as_slice-gone.ensures
    ∙ ap (queues_without c.args.connection c.args.settled.gone) c.self.view_is in
    let join = subst (λ (l : List Placed). MayAllJoin (map (as_kept files) l) (queues_without c.args.connection c.args.settled.gone c.args.self.now)) (sym c.into_vec-placed.ensures) steps.join in
    subst (λ (l : List QueueState). MayAllJoin (map (as_kept files) c.into_vec-placed.result.items) l) (sym fewer) join

pub returns : goal.returns
returns c flow k out over kept =
    let steps = settled_in flow k out c.args.connection c.args.settled c.args.self.now (kept_of c.args.stored.now) over kept c.requires.room in
    let files = c.args.stored.now.files.items in
    let fewer = c.take_out.ensures.queues ∙ ap (λ (ns : List ℕ). queues_without c.args.connection ns c.self.inside.list.items) c.as_slice-gone.ensures
    ∙ ap (queues_without c.args.connection c.args.settled.gone) c.self.view_is in
    let new = c.put_in.ensures.queues ∙ ap (λ (l : List Placed). queues_with (map (as_kept files) l) c.take_out.new.queues.items) c.into_vec-placed.ensures
    ∙ ap (queues_with (map (as_kept files) c.args.settled.placed)) fewer in
    subst (λ (l : List QueueState). AreQueuesOf flow (kept_of c.args.stored.now) (out_without c.args.settled.gone out) l) (sym new) steps.of_after
