use Rattle.std.proofs.Common.{◌≡◌, ap, Err}
use Rattle.std.proofs.lemmas.Result.{err_from_is_err_and}
use Rattle.flowfile_record.specs.Reading.{text_at}
use Rattle.flowfile_record.specs.declared.fields.fault.FieldError.TheVariants.{Memory}
use Rattle.record_codec.proofs.Fronts.{first_ok}
use Rattle.record_codec.proofs.texts.read_texts.Goals as goal

pub returns-in_err-texts-clause-memory : goal.returns-in_err-texts-clause-memory
returns-in_err-texts-clause-memory c memory =
    let p = err_from_is_err_and c.from_residual-in_err-texts.result c.from_residual-in_err-texts.ensures.1 in
    let same : c.in_err-texts.field-0.0 ≡ Memory = cc (p.1, p.2, memory) in
    let first = c.in_err-texts.ensures.memory (ap Err same) in
    first_ok text_at c.args.bytes.now _ _ c.in_ok-count.ensures first.0 first.1
