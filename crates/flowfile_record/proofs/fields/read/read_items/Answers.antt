use Rattle.std.proofs.Common.{arith}
use Rattle.std.proofs.lemmas.Result.{err_from_is_err_and}
use Rattle.flowfile_record.specs.Reading.{number_at, items_at}
use Rattle.flowfile_record.proofs.Items.{goes_on, ends, is_done, first_read}
use Rattle.flowfile_record.proofs.fields.read.read_items.Goals as goal

pub returns-in_err-item-clause-read : goal.returns-in_err-item-clause-read
returns-in_err-item-clause-read c =
    let p = err_from_is_err_and c.from_residual.result c.from_residual.ensures.1 in
    rw (p.1, p.2) (ends number_at c.loop.items.items c.args.count c.loop.counter c.loop.rest.now c.in_err-item.field-0.0.left (items_at number_at c.args.count c.args.bytes.now) c.loop-test.true c.in_err-item.ensures c.loop.invariant.reads)

pub loop-preserved : goal.loop-preserved
loop-preserved c = record {
  reads = rw c.in_ok-push.ensures.items (goes_on number_at c.loop.items.items c.args.count c.loop.counter c.loop.rest.now c.in_ok-item.item c.in_ok-item.after.now (items_at number_at c.args.count c.args.bytes.now) c.loop-test.true c.in_ok-item.ensures c.loop.invariant.reads);
  none = λ e. absurd (omega arith);
  some = λ _. first_read number_at c.args.bytes.now c.loop.rest.now c.loop.counter _ c.in_ok-item.ensures c.loop.invariant.none c.loop.invariant.some;
}

pub returns-clause-read : goal.returns-clause-read
returns-clause-read c = is_done number_at c.loop.items.items c.args.count c.loop.counter c.loop.rest.now (items_at number_at c.args.count c.args.bytes.now) c.loop-test.false c.loop.invariant.reads
