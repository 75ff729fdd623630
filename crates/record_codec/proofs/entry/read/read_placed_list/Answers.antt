use Rattle.std.proofs.Common.{◌≡◌, ap, Err}
use Rattle.std.specs.Prelude.{is_ok}
use Rattle.std.proofs.lemmas.Result.{err_from_is_err_and}
use Rattle.flowfile_record.specs.declared.fields.fault.FieldError.TheVariants.{Memory}
use Rattle.record_codec.specs.ActiveFile.{active_file_at, active_front_at}
use Rattle.record_codec.proofs.Fronts.{first_ok, or_each}
use Rattle.record_codec.proofs.entry.read.read_placed_list.Goals as goal

pub returns-in_err-items-clause-memory : goal.returns-in_err-items-clause-memory
returns-in_err-items-clause-memory c memory =
    let p = err_from_is_err_and c.from_residual-in_err-items.result c.from_residual-in_err-items.ensures.1 in
    let same : c.in_err-items.field-0.0 ≡ Memory = cc (p.1, p.2, memory) in
    let first = c.in_err-items.ensures.memory (ap Err same) in
    or_each (is_ok (active_front_at c.in_ok-count.rest.now)) (is_ok (active_file_at c.in_ok-count.rest.now))
    (first_ok active_front_at c.args.bytes.now _ _ c.in_ok-count.ensures first.0)
    (first_ok active_file_at c.args.bytes.now _ _ c.in_ok-count.ensures first.0)
    first.1
