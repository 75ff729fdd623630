use Rattle.std.proofs.Common.{◌≡◌, ◌+◌, true, drop, get_or, refl, sym, ◌∙◌, ap, subst}
use Rattle.std.specs.Prelude.{IsSome}
use Rattle.std.proofs.lemmas.List.{drop_more, drop_all}
use Rattle.std.proofs.lemmas.List.Elements.{All-head, All-tail}
use Rattle.flowfile_record.specs.NumberedItems.{item_of}
use Rattle.machine_model.specs.Files.{are_distinct}
use Rattle.flow_queue.specs.Leaving.{queue_left_by}
use Rattle.flow_queue.specs.Queue.{held_number}
use Rattle.flow_queue.proofs.Swapped.{AreThere, distinct-parts, flights-there, has-flight, left-cons, left-none, still-there}
use Rattle.flow_queue.proofs.queue.Queue.leave_each.Goals as goal

pub loop-number-init : goal.loop-number-init
loop-number-init c = record {
  there = flights-there c.args.self.now.files c.args.numbers.now c.requires.there;
  distinct = c.requires.distinct;
  queue = refl;
}

pub leave-requires : goal.leave-requires
leave-requires c =
    let files = c.loop-number.self.files in
    let ns = c.args.numbers.now in
    let i = c.loop-number.number-index in
    let there = subst (AreThere files) (drop_more ns i 0 c.loop-number-test.true) c.loop-number.invariant.there in
    has-flight (get_or ns i 0) files (All-head (λ n. IsSome (item_of held_number n files)) (get_or ns i 0) (drop (i + 1) ns) there)

pub loop-number-preserved : goal.loop-number-preserved
loop-number-preserved c =
    let queue = c.loop-number.self in
    let ns = c.args.numbers.now in
    let i = c.loop-number.number-index in
    let n = get_or ns i 0 in
    let later = drop (i + 1) ns in
    let rest = drop_more ns i 0 c.loop-number-test.true in
    let parts = distinct-parts n later (subst (λ l. are_distinct l ≡ true) rest c.loop-number.invariant.distinct) in
    let there = All-tail (λ m. IsSome (item_of held_number m queue.files)) n later (subst (AreThere queue.files) rest c.loop-number.invariant.there) in
    record {
      there = subst (λ q. AreThere q.files later) (sym c.leave.ensures.left) (still-there n later queue.files parts.0 there);
      distinct = parts.1;
      queue = ap (queue_left_by later) c.leave.ensures.left ∙ left-cons n later queue ∙ ap (λ l. queue_left_by l queue) (sym rest) ∙ c.loop-number.invariant.queue;
    }

pub returns : goal.returns
returns c =
    let queue = c.loop-number.self in
    let none = drop_all c.loop-number.number-index c.args.numbers.now c.loop-number-test.false in
    sym (left-none queue) ∙ ap (λ l. queue_left_by l queue) (sym none) ∙ c.loop-number.invariant.queue
