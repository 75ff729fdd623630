use Rattle.std.proofs.Common.{◌≡◌, ap, Err}
use Rattle.std.proofs.lemmas.Result.{err_from_is_err_and}
use Rattle.std.specs.Int.{w16}
use Rattle.flowfile_record.specs.Reading.{uint_at}
use Rattle.flowfile_record.specs.declared.fields.fault.FieldError.TheVariants.{Memory}
use Rattle.record_codec.proofs.Fronts.{then_ok}
use Rattle.record_codec.specs.FileReading.{file_front_at}
use Rattle.record_codec.proofs.active_file.read_fields.Goals as goal

pub returns-in_err-file-clause-memory : goal.returns-in_err-file-clause-memory
returns-in_err-file-clause-memory c memory =
    let p = err_from_is_err_and c.from_residual-in_err-file.result c.from_residual-in_err-file.ensures.1 in
    let same : c.in_err-file.field-0.0 ≡ Memory = cc (p.1, p.2, memory) in
    then_ok (uint_at w16) file_front_at c.args.bytes.now _ _ c.in_ok-connection.ensures (c.in_err-file.ensures.memory (ap Err same))
