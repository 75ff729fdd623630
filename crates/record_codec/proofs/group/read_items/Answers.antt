use Rattle.std.proofs.Common.{◌≡◌, ap, Err, arith}
use Rattle.std.specs.Prelude.{is_ok}
use Rattle.std.proofs.lemmas.Result.{err_from_is_err_and}
use Rattle.flowfile_record.specs.Reading.{items_at}
use Rattle.flowfile_record.specs.declared.fields.fault.FieldError.TheVariants.{Memory}
use Rattle.flowfile_record.proofs.Items.{goes_on, fails, is_done}
use Rattle.record_codec.specs.GroupReading.{item_at}
use Rattle.record_codec.proofs.Fronts.{first_front}
use Rattle.record_codec.proofs.group.read_items.Goals as goal

pub returns-in_err-item-clause-read : goal.returns-in_err-item-clause-read
returns-in_err-item-clause-read c =
    let p = err_from_is_err_and c.from_residual.result c.from_residual.ensures.1 in
    rw (p.1, p.2) (fails c.in_err-item.field-0.0 item_at c.loop.items.items c.args.count c.loop.counter c.loop.rest.now (items_at item_at c.args.count c.args.bytes.now) c.loop-test.true c.in_err-item.ensures.read c.loop.invariant.reads)

pub returns-in_err-item-clause-memory : goal.returns-in_err-item-clause-memory
returns-in_err-item-clause-memory c memory =
    let p = err_from_is_err_and c.from_residual.result c.from_residual.ensures.1 in
    let same : c.in_err-item.field-0.0 ≡ Memory = cc (p.1, p.2, memory) in
    (omega arith, first_front item_at c.args.bytes.now c.loop.rest.now c.loop.counter (c.in_err-item.ensures.memory (ap Err same)) c.loop.invariant.none c.loop.invariant.some)

pub returns-in_err-push-clause-memory : goal.returns-in_err-push-clause-memory
returns-in_err-push-clause-memory c memory =
    (omega arith, first_front item_at c.args.bytes.now c.loop.rest.now c.loop.counter (ap is_ok c.in_ok-item.ensures.read) c.loop.invariant.none c.loop.invariant.some)

pub loop-preserved : goal.loop-preserved
loop-preserved c = record {
  reads = rw c.in_ok-push.ensures.items (goes_on item_at c.loop.items.items c.args.count c.loop.counter c.loop.rest.now c.in_ok-item.item c.in_ok-item.after.now (items_at item_at c.args.count c.args.bytes.now) c.loop-test.true c.in_ok-item.ensures.read c.loop.invariant.reads);
  none = λ e. absurd (omega arith);
  some = λ _. first_front item_at c.args.bytes.now c.loop.rest.now c.loop.counter (ap is_ok c.in_ok-item.ensures.read) c.loop.invariant.none c.loop.invariant.some;
}

pub returns-clause-read : goal.returns-clause-read
returns-clause-read c = is_done item_at c.loop.items.items c.args.count c.loop.counter c.loop.rest.now (items_at item_at c.args.count c.args.bytes.now) c.loop-test.false c.loop.invariant.reads
