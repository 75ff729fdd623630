use Rattle.std.proofs.Common.{◌<◌, ◌^◌, List, length, sym, subst, ◌∙◌}
use Rattle.std.specs.Prelude.{All}
use Rattle.flowfile_record.specs.declared.stored.Placed.{Placed}
use Rattle.flow_queue.specs.Queue.{QueueState}
use Rattle.engine_queues.proofs.Settled.{placed_within}
use Rattle.engine_queues.proofs.Waiting.{marks-beside-room}
use Rattle.engine_queues.proofs.queues.Queues.reserve.Goals as goal

pub reserve_for-requires-clause-few : goal.reserve_for-requires-clause-few
reserve_for-requires-clause-few c = subst (λ (l : List Placed). length l < 2 ^ 32) (sym c.as_slice.ensures) c.requires.3.may.placed

pub reserve_for-requires-clause-within : goal.reserve_for-requires-clause-within
reserve_for-requires-clause-within c =
    let within = placed_within c.requires.0 c.requires.1 c.requires.2 c.args.settled.now c.args.self.now c.requires.3 in
    let inside = subst (λ (qs : List QueueState). All (λ (p : Placed). p.connection < length qs) c.args.settled.now.placed) (sym c.self.view_is) within in
    subst (λ (l : List Placed). All (λ (p : Placed). p.connection < length c.self.inside.list.items) l) (sym c.as_slice.ensures) inside

pub invariant_of-self : goal.invariant_of-self
invariant_of-self c =
    c.self.invariant ∙ sym (marks-beside-room c.reserve_for.new.queues.items c.self.inside.list.items c.reserve_for.ensures.same)
