use Rattle.std.proofs.Common.{◌≡◌, ◌<◌, ◌^◌, ℕ, List, [], ap, sym, subst, ◌∙◌, get_or, length, arith}
use Rattle.std.specs.List.{sum_by}
use Rattle.std.proofs.lemmas.Result.{err_from_is_err_and}
use Rattle.flowfile_record.specs.NumberedItems.{with_items}
use Rattle.flowfile_record.specs.Stored.{Kept, kept_of}
use Rattle.checkpoint_store.specs.Consistent.{AreDistinctBy, IsConsistent}
use Rattle.flow_query.specs.Parts.{waiting_arrival, lines_text, waiting_size, waiting_at, waiting_in}
use Rattle.flow_query.specs.declared.waiting.Waiting.{Waiting}
use Rattle.flow_query.proofs.Arrivals.{distinct_in}
use Rattle.flow_query.proofs.Queued.{sizes_fit, line_more, line_failed, lines_done}
use Rattle.flow_query.proofs.Written.{leaves-front, printed-sink}
use Rattle.flow_query.proofs.queues.write_queues.Goals as goal

-- the list of a connection, and its queue
are_distinct : (k : Kept) (place : ℕ) (list listed : List Waiting) → IsConsistent k → list ≡ listed → listed ≡ waiting_in k.files place → AreDistinctBy waiting_arrival list
are_distinct k place list listed consistent taken is = subst (λ (l : List Waiting). AreDistinctBy waiting_arrival l) (sym (taken ∙ is)) (distinct_in place k.files consistent.arrivals)

queue_is : (k : Kept) (place : ℕ) (queue list listed : List Waiting) → queue ≡ with_items waiting_arrival list [] → list ≡ listed → listed ≡ waiting_in k.files place → queue ≡ waiting_at k.files place
queue_is k place queue list listed put taken is = put ∙ ap (λ (l : List Waiting). with_items waiting_arrival l []) (taken ∙ is)

pub queue_of-requires : goal.queue_of-requires
queue_of-requires g c =
    let inv = c.loop-place.invariant in
    are_distinct (kept_of c.args.stored.now) c.loop-place.place _ _ c.requires c.take_list-waiting.ensures.list (inv.lists c.loop-place.place (omega arith) c.loop-place-test.true)

pub write_queue-requires : goal.write_queue-requires
write_queue-requires g c =
    let inv = c.loop-place.invariant in
    let k = kept_of c.args.stored.now in
    let queue = queue_is k c.loop-place.place _ _ _ c.in_ok-queue.ensures c.take_list-waiting.ensures.list (inv.lists c.loop-place.place (omega arith) c.loop-place-test.true) in
    subst (λ (l : List Waiting). sum_by waiting_size l < 2 ^ 64) (sym queue) (sizes_fit k c.loop-place.place c.requires)

here_is : (texts ids : List (List ℕ)) (place : ℕ) (id : List ℕ) → texts ≡ ids → id ≡ get_or texts place id → id ≡ get_or ids place id
here_is texts ids place id same is = is ∙ ap (λ (l : List (List ℕ)). get_or l place id) same

pub returns-in_err-write_queue-clause-written : goal.returns-in_err-write_queue-clause-written
returns-in_err-write_queue-clause-written g c = λ tells.
    let p = err_from_is_err_and c.from_residual-in_err-write_queue.result c.from_residual-in_err-write_queue.ensures.1 in
    let k = kept_of c.args.stored.now in
    let inv = c.loop-place.invariant in
    let same = c.as_slice-ids.ensures in
    let queue = queue_is k c.loop-place.place _ _ _ c.in_ok-queue.ensures c.take_list-waiting.ensures.list (inv.lists c.loop-place.place (omega arith) c.loop-place-test.true) in
    rw (p.1, p.2)
    (printed-sink (lines_text k) _ _ _
    (line_failed k c.loop-place.place c.index-ids-place.result _ c.in_ok-queue.queue.items _ _ _ _ (omega (arith, ap length same, c.loop-place-test.true))
    (here_is _ k.connections c.loop-place.place c.index-ids-place.result same c.index-ids-place.is) c.as_str.ensures.text queue (inv.left tells)
    (c.in_err-write_queue.ensures.written tells)))

pub loop-place-preserved : goal.loop-place-preserved
loop-place-preserved g c =
    let k = kept_of c.args.stored.now in
    let inv = c.loop-place.invariant in
    let same = c.as_slice-ids.ensures in
    let queue = queue_is k c.loop-place.place _ _ _ c.in_ok-queue.ensures c.take_list-waiting.ensures.list (inv.lists c.loop-place.place (omega arith) c.loop-place-test.true) in
    record {
      left = λ tells.
          line_more k c.loop-place.place c.index-ids-place.result _ c.in_ok-queue.queue.items _ _ _ (omega (arith, ap length same, c.loop-place-test.true))
          (here_is _ k.connections c.loop-place.place c.index-ids-place.result same c.index-ids-place.is) c.as_str.ensures.text queue (inv.left tells)
          (c.in_ok-write_queue.ensures.written tells);
      len = c.take_list-waiting.ensures.len ∙ inv.len;
      lists = λ at from lt. c.take_list-waiting.ensures.others at (λ same. absurd (omega (arith, same, from))) ∙ inv.lists at (omega (arith, from)) lt;
      faults = omega (arith, inv.faults, c.write_queue.ensures.cause.never_falls);
    }

pub returns-clause-written : goal.returns-clause-written
returns-clause-written g c = λ tells.
    let k = kept_of c.args.stored.now in
    let same = c.as_slice-ids.ensures in
    lines_done k c.loop-place.place _ _ (omega (arith, ap length same, c.loop-place-test.false)) (c.loop-place.invariant.left tells)

-- without memory for a queue, those before it were written
pub returns-in_err-queue-clause-written : goal.returns-in_err-queue-clause-written
returns-in_err-queue-clause-written g c = λ tells.
    let p = err_from_is_err_and c.from_residual-in_err-queue.result c.from_residual-in_err-queue.ensures.1 in
    rw (p.1, p.2) (leaves-front (lines_text (kept_of c.args.stored.now)) _ _ _ (c.loop-place.invariant.left tells))
