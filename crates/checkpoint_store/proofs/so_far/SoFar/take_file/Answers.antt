use Rattle.std.proofs.Common.{◌≡◌, inr, length, ap}
use Rattle.std.proofs.lemmas.Result.{err_from_is_err_and}
use Rattle.std.specs.Prelude.{Err}
use Rattle.flowfile_record.specs.Reading.{whole}
use Rattle.flowfile_record.specs.Stored.{kept_of}
use Rattle.record_codec.specs.ActiveFile.{active_file_at}
use Rattle.checkpoint_store.specs.declared.so_far.Unfit.TheVariants.{Memory}
use Rattle.checkpoint_store.proofs.Parts.{file_follows}
use Rattle.checkpoint_store.proofs.so_far.SoFar.take_file.Goals as goal

pub returns-in_err-add_file-clause-memory : goal.returns-in_err-add_file-clause-memory
returns-in_err-add_file-clause-memory c = λ is.
    let p = err_from_is_err_and c.from_residual-in_err-add_file.result c.from_residual-in_err-add_file.ensures.1 in
    let same : c.in_err-add_file.field-0.0 ≡ Memory = cc (p.1, p.2, is) in
    inr (file_follows (kept_of c.args.self.now.state) c.in_ok-active.active (length c.args.payload.now) (whole active_file_at c.args.payload.now) c.in_ok-active.ensures.exact
    (c.in_err-add_file.ensures.memory (ap Err same)))
