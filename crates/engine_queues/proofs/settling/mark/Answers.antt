use Rattle.std.proofs.Common.{◌+◌, ℕ, List, drop, get_or, length, refl, sym, ap, subst, ◌∙◌, arith}
use Rattle.std.proofs.lemmas.List.{drop_more}
use Rattle.std.proofs.lemmas.Option.{slice_get_read}
use Rattle.flow_queue.specs.Queue.{QueueState}
use Rattle.engine_queues.specs.Settling.{queue_marked, queues_marked, MayBeMarked}
use Rattle.engine_queues.proofs.Changing.{written}
use Rattle.engine_queues.proofs.Marking.{one_marked}
use Rattle.engine_queues.proofs.settling.mark.Goals as goal

pub index_mut-requires : goal.index_mut-requires
index_mut-requires c =
    let turn = one_marked c.args.in_flight c.args.connection c.loop-number.number-index c.args.numbers.now c.loop-number.queues.items c.loop-number-test.true c.loop-number.invariant.there in
    let within = turn.0.within in
    omega (arith, within, c.from.ensures)

pub mark_one-requires : goal.mark_one-requires
mark_one-requires c =
    let queues = c.loop-number.queues.items in
    let before = c.index_mut.result.now in
    let turn = one_marked c.args.in_flight c.args.connection c.loop-number.number-index c.args.numbers.now queues c.loop-number-test.true c.loop-number.invariant.there in
    let read = c.index_mut.ensures.value ∙ ap (λ (i : ℕ). get_or queues i before) c.from.ensures in
    turn.0.there before (slice_get_read queues (length queues) c.args.connection before refl turn.0.within read)

pub loop-number-preserved : goal.loop-number-preserved
loop-number-preserved c =
    let queues = c.loop-number.queues.items in
    let i = c.loop-number.number-index in
    let numbers = c.args.numbers.now in
    let number = get_or numbers i 0 in
    let later = drop (i + 1) numbers in
    let b = c.args.in_flight in
    let turn = one_marked b c.args.connection i numbers queues c.loop-number-test.true c.loop-number.invariant.there in
    let now = written queues c.from.result c.args.connection (queue_marked b number) c.index_mut.result.now c.mark_one.new.queue c.from.ensures turn.0.within c.index_mut.ensures.value c.mark_one.ensures in
    record {
      marked = ap (λ (l : List QueueState). queues_marked b c.args.connection later l) now
          ∙ ap (λ (ns : List ℕ). queues_marked b c.args.connection ns queues) (sym (drop_more numbers i 0 c.loop-number-test.true)) ∙ c.loop-number.invariant.marked;
      there = subst (λ (l : List QueueState). MayBeMarked b c.args.connection later l) (sym now) turn.1;
    }
