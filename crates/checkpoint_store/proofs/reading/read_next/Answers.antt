use Rattle.std.proofs.Common.{◌≡◌, Err, ap}
use Rattle.std.proofs.lemmas.Result.{err_from_is_err_and}
use Rattle.flowfile_record.specs.Stored.{kept_of}
use Rattle.block_file.specs.declared.error.BlockError.TheVariants.{Memory}
use Rattle.checkpoint_store.proofs.reading.read_next.Goals as goal

pub returns-in_err-block-clause-memory : goal.returns-in_err-block-clause-memory
returns-in_err-block-clause-memory g c is told =
    let p = err_from_is_err_and c.from_residual.result c.from_residual.ensures.1 in
    let same : c.in_err-block.field-0.0 ≡ Memory = cc (p.1, p.2, is) in
    c.in_err-block.ensures.memory (ap Err same) told (kept_of c.args.so_far.now.state)
