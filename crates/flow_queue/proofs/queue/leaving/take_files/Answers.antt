use Rattle.std.proofs.Common.{ℕ, ◌+◌, get_or, drop, length, length-drop, sym, ap, ◌∙◌, subst, arith}
use Rattle.std.specs.Prelude.{IsSome, sum_by}
use Rattle.std.proofs.lemmas.List.{drop_more, drop_all}
use Rattle.std.proofs.lemmas.List.Elements.{All-head}
use Rattle.flowfile_record.specs.NumberedItems.{item_of}
use Rattle.flowfile_record.proofs.ByNumber.{length-without}
use Rattle.flow_queue.specs.Counts.{AreCountsOf}
use Rattle.flow_queue.specs.Leaving.{files_staying, MayLeaveTogether}
use Rattle.flow_queue.specs.Queue.{held_number, held_bytes}
use Rattle.flow_queue.proofs.Counting.{counts-taken}
use Rattle.flow_queue.proofs.Fields.{one_gone}
use Rattle.flow_queue.proofs.Swapped.{next-may, staying-cons, staying-none, still-may-go}
use Rattle.flow_queue.proofs.queue.leaving.take_files.Goals as goal

pub take_held-held-requires : goal.take_held-held-requires
take_held-held-requires c =
    let may = next-may c.args.numbers.now c.loop-number.number-index c.loop-number.files.items c.loop-number-test.true c.loop-number.invariant.may in
    All-head (λ n. IsSome (item_of held_number n c.loop-number.files.items)) (get_or c.args.numbers.now c.loop-number.number-index 0) (drop (c.loop-number.number-index + 1) c.args.numbers.now) may.there

pub leave-requires-clause-few : goal.leave-requires-clause-few
leave-requires-clause-few c = omega (arith, c.loop-number.invariant.counted.all, c.loop-number.invariant.count, c.requires.few, length-drop {A = ℕ})

pub overflow_add-bytes : goal.overflow_add-bytes
overflow_add-bytes c =
    let n = get_or c.args.numbers.now c.loop-number.number-index 0 in
    let gone = one_gone n c.take_held-held.result c.loop-number.files.items c.loop-number.invariant.may.ascends c.take_held-held.ensures.held in
    omega (arith, gone, c.loop-number.invariant.bytes, c.requires.sum, c.from-bytes.ensures, c.size.ensures)

pub loop-number-preserved : goal.loop-number-preserved
loop-number-preserved c =
    let files = c.loop-number.files.items in
    let ns = c.args.numbers.now in
    let i = c.loop-number.number-index in
    let n = get_or ns i 0 in
    let later = drop (i + 1) ns in
    let held = c.take_held-held.result in
    let rest = drop_more ns i 0 c.loop-number-test.true in
    let may = next-may ns i files c.loop-number-test.true c.loop-number.invariant.may in
    let taken = c.take_held-held.ensures.files in
    let gone = one_gone n held files may.ascends c.take_held-held.ensures.held in
    let fewer = length-without held_number n files held may.ascends c.take_held-held.ensures.held in
    record {
      may = subst (λ fs. MayLeaveTogether fs later) (sym taken) (still-may-go n later files may);
      files = ap (files_staying later) taken ∙ sym (staying-cons n later files) ∙ ap (λ l. files_staying l files) (sym rest) ∙ c.loop-number.invariant.files;
      room = omega (arith, c.loop-number.invariant.room, ap length rest, c.take_held-held.ensures.room);
      count = omega (arith, c.loop-number.invariant.count, ap length rest, ap length taken, fewer);
      counted = subst (AreCountsOf c.leave.new.self) (sym taken)
          (c.leave.ensures.counted _ (counts-taken c.loop-number.counts n held files may.ascends c.take_held-held.ensures.held c.loop-number.invariant.counted));
      places = c.leave.ensures.places ∙ c.loop-number.invariant.places;
      bytes = omega (arith, c.loop-number.invariant.bytes, gone, ap (sum_by held_bytes) taken, c.from-bytes.ensures, c.size.ensures);
    }

pub returns-clause-files : goal.returns-clause-files
returns-clause-files c =
    let files = c.loop-number.files.items in
    let none = drop_all c.loop-number.number-index c.args.numbers.now c.loop-number-test.false in
    sym (staying-none files) ∙ ap (λ l. files_staying l files) (sym none) ∙ c.loop-number.invariant.files

pub returns-clause-room : goal.returns-clause-room
returns-clause-room c =
    let none = drop_all c.loop-number.number-index c.args.numbers.now c.loop-number-test.false in
    omega (arith, c.loop-number.invariant.room, ap length none)

pub returns-clause-count : goal.returns-clause-count
returns-clause-count c =
    let none = drop_all c.loop-number.number-index c.args.numbers.now c.loop-number-test.false in
    omega (arith, c.loop-number.invariant.count, ap length none)
