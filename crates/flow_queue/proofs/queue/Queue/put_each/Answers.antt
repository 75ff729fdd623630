use Rattle.std.proofs.Common.{◌≡◌, length, sym, ◌∙◌, ap, subst, arith}
use Rattle.std.specs.Vec.Iter.{into_iter_items}
use Rattle.std.proofs.lemmas.List.{nil_from_length}
use Rattle.std.proofs.lemmas.List.Elements.{All-head}
use Rattle.flow_queue.specs.Entering.{MayComeTogether, queue_joined_by}
use Rattle.flow_queue.specs.Queue.{IsApart}
use Rattle.flow_queue.proofs.Joining.{comes-cons, comes-none, next-comes}
use Rattle.flow_queue.proofs.queue.Queue.put_each.Goals as goal

pub put-requires-clause-room : goal.put-requires-clause-room
put-requires-clause-room c = omega (arith, c.loop-file.invariant.room, ap length c.in-Some.ensures.steps.0)

pub put-requires-clause-apart : goal.put-requires-clause-apart
put-requires-clause-apart c =
    let may = subst (MayComeTogether c.loop-file.self.files) c.in-Some.ensures.steps.0 c.loop-file.invariant.may in
    All-head (λ f. IsApart f c.loop-file.self.files) c.in-Some.file (into_iter_items c.next.new.self) may.apart

pub loop-file-preserved : goal.loop-file-preserved
loop-file-preserved c =
    let queue = c.loop-file.self in
    let later = into_iter_items c.next.new.self in
    let split = c.in-Some.ensures.steps.0 in
    let may = subst (MayComeTogether queue.files) split c.loop-file.invariant.may in
    record {
      room = omega (arith, c.loop-file.invariant.room, ap length split, ap (λ q. q.spare) c.put.ensures);
      may = subst (λ held. MayComeTogether held later) (sym (ap (λ q. q.files) c.put.ensures)) (next-comes queue.files c.in-Some.file later may);
      queue = ap (queue_joined_by later) c.put.ensures ∙ comes-cons queue c.in-Some.file later ∙ ap (λ l. queue_joined_by l queue) (sym split) ∙ c.loop-file.invariant.queue;
    }

pub loop-file-init : goal.loop-file-init
loop-file-init c =
    let queue = c.args.self.now in
    let all : into_iter_items c.into_iter-file-iterator.result ≡ c.args.files.items = c.into_iter-file-iterator.ensures.into_iter_gives.0 in
    record {
      room = omega (arith, ap length all, c.requires.room);
      may = subst (MayComeTogether queue.files) (sym all) c.requires.may;
      queue = ap (λ l. queue_joined_by l queue) all;
    }

pub returns : goal.returns
returns c =
    let left = c.loop-file.file-iterator in
    let none : length (into_iter_items left) ≡ 0 = omega (arith, left.rest.ok.0, c.in-None.ensures.steps.0) in
    sym (comes-none c.loop-file.self) ∙ ap (λ l. queue_joined_by l c.loop-file.self) (sym (nil_from_length (into_iter_items left) none)) ∙ c.loop-file.invariant.queue
