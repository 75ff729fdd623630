use Rattle.std.proofs.Common.{◌≡◌, ap, Err, arith}
use Rattle.std.specs.Prelude.{is_ok}
use Rattle.std.proofs.lemmas.Result.{err_from_is_err_and}
use Rattle.std.specs.FinMap.{empty}
use Rattle.flowfile_record.specs.declared.fields.fault.FieldError.TheVariants.{Memory}
use Rattle.record_codec.specs.FileReading.{attribute_pairs_at}
use Rattle.record_codec.proofs.AttributeLaws.{goes_on, fails, is_done}
use Rattle.record_codec.proofs.Fronts.{first_pair}
use Rattle.record_codec.proofs.attributes.read_pairs.Goals as goal

pub returns-in_err-rest-clause-read : goal.returns-in_err-rest-clause-read
returns-in_err-rest-clause-read c =
    let p = err_from_is_err_and c.from_residual.result c.from_residual.ensures.1 in
    rw (p.1, p.2) (fails c.in_err-rest.field-0.0 c.args.count c.loop.counter c.loop.attributes c.loop.rest.now (attribute_pairs_at c.args.count empty c.args.bytes.now) c.loop-test.true c.in_err-rest.ensures.read c.loop.invariant.reads)

pub returns-in_err-rest-clause-memory : goal.returns-in_err-rest-clause-memory
returns-in_err-rest-clause-memory c memory =
    let p = err_from_is_err_and c.from_residual.result c.from_residual.ensures.1 in
    let same : c.in_err-rest.field-0.0 ≡ Memory = cc (p.1, p.2, memory) in
    (omega arith, first_pair c.args.bytes.now c.loop.rest.now c.loop.attributes c.loop.counter (c.in_err-rest.ensures.memory (ap Err same)) c.loop.invariant.none c.loop.invariant.some)

pub loop-preserved : goal.loop-preserved
loop-preserved c = record {
  reads = goes_on c.args.count c.loop.counter c.loop.attributes c.loop.rest.now c.read_pair.new.attributes c.in_ok-rest.rest.now (attribute_pairs_at c.args.count empty c.args.bytes.now) c.loop-test.true c.in_ok-rest.ensures.read c.loop.invariant.reads;
  none = λ e. absurd (omega arith);
  some = λ _. first_pair c.args.bytes.now c.loop.rest.now c.loop.attributes c.loop.counter (ap is_ok c.in_ok-rest.ensures.read) c.loop.invariant.none c.loop.invariant.some;
}

pub returns-clause-read : goal.returns-clause-read
returns-clause-read c = is_done c.args.count c.loop.counter c.loop.attributes c.loop.rest.now (attribute_pairs_at c.args.count empty c.args.bytes.now) c.loop-test.false c.loop.invariant.reads
