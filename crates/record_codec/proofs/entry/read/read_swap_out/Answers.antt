use Rattle.std.proofs.Common.{◌≡◌, ap, Err}
use Rattle.std.proofs.lemmas.Result.{err_from_is_err_and}
use Rattle.std.specs.Int.{w16}
use Rattle.flowfile_record.specs.Reading.{◌then◌, uint_at, number_at, first_at}
use Rattle.flowfile_record.specs.declared.fields.fault.FieldError.TheVariants.{Memory}
use Rattle.record_codec.proofs.Fronts.{then_ok}
use Rattle.record_codec.proofs.entry.read.read_swap_out.Goals as goal

pub returns-in_err-numbers-clause-memory : goal.returns-in_err-numbers-clause-memory
returns-in_err-numbers-clause-memory c memory =
    let p = err_from_is_err_and c.from_residual-in_err-numbers.result c.from_residual-in_err-numbers.ensures.1 in
    let same : c.in_err-numbers.field-0.0 ≡ Memory = cc (p.1, p.2, memory) in
    let first = c.in_err-numbers.ensures.memory (ap Err same) in
    then_ok (uint_at w16) (number_at then first_at number_at) c.args.bytes.now _ _ c.in_ok-connection.ensures (then_ok number_at (first_at number_at) c.in_ok-connection.rest.now _ _ c.in_ok-batch.ensures first)
