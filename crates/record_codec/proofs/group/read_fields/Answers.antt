use Rattle.std.proofs.Common.{◌≡◌, ap, Err}
use Rattle.std.proofs.lemmas.Result.{err_from_is_err_and}
use Rattle.flowfile_record.specs.declared.fields.fault.FieldError.TheVariants.{Memory}
use Rattle.record_codec.specs.GroupReading.{several_at, item_at}
use Rattle.record_codec.proofs.Fronts.{then_ok}
use Rattle.record_codec.proofs.group.read_fields.Goals as goal

pub returns-in_err-items-clause-memory : goal.returns-in_err-items-clause-memory
returns-in_err-items-clause-memory c memory =
    let p = err_from_is_err_and c.from_residual-in_err-items.result c.from_residual-in_err-items.ensures.1 in
    let same : c.in_err-items.field-0.0 ≡ Memory = cc (p.1, p.2, memory) in
    let first = c.in_err-items.ensures.memory (ap Err same) in
    then_ok several_at item_at c.args.bytes.now _ _ c.in_ok-count.ensures first.1
