use Rattle.std.proofs.Common.{false, List, map, sym, ap, subst, ◌∙◌}
use Rattle.flow_queue.specs.Queue.{QueueState}
use Rattle.engine_queues.specs.Beside.{out_without}
use Rattle.engine_queues.specs.Queues.{AreQueuesOf}
use Rattle.engine_queues.specs.Settling.{queues_marked, without_flights, MayBeMarked}
use Rattle.engine_queues.proofs.Marking.{all-rest, marked}
use Rattle.engine_queues.proofs.Waiting.{marks-beside-flights}
use Rattle.engine_queues.proofs.queues.Queues.back.Goals as goal

pub mark-requires : goal.mark-requires
mark-requires c =
    let r = c.requires in
    subst (λ (l : List QueueState). MayBeMarked false c.args.connection c.args.numbers.now l) (sym c.self.view_is)
    (marked r.0 false r.1 r.2 c.args.connection c.args.numbers.now c.args.self.now r.3).1

pub invariant_of-self : goal.invariant_of-self
invariant_of-self c =
    c.self.invariant
    ∙ sym (marks-beside-flights c.mark.new.queues.items c.self.inside.list.items
    (ap (map without_flights) c.mark.ensures ∙ all-rest false c.args.connection c.args.numbers.now c.self.inside.list.items))

pub returns-clause-same : goal.returns-clause-same
returns-clause-same c =
    ap (map without_flights) c.mark.ensures ∙ all-rest false c.args.connection c.args.numbers.now c.self.inside.list.items
    ∙ ap (map without_flights) c.self.view_is

pub returns-clause-back : goal.returns-clause-back
returns-clause-back c flow k out may =
    let new = c.mark.ensures ∙ ap (queues_marked false c.args.connection c.args.numbers.now) c.self.view_is in
    subst (λ (l : List QueueState). AreQueuesOf flow k (out_without c.args.numbers.now out) l) (sym new)
    (marked flow false k out c.args.connection c.args.numbers.now c.args.self.now may).0
