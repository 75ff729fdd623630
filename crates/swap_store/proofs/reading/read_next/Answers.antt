use Rattle.std.proofs.Common.{◌≡◌, Err, vec_capacity, ap}
use Rattle.std.proofs.lemmas.Result.{err_from_is_err_and}
use Rattle.block_file.specs.declared.error.BlockError.TheVariants.{Memory}
use Rattle.swap_store.specs.Taken.{address_in}
use Rattle.swap_store.proofs.Takes.{past_takes}
use Rattle.swap_store.proofs.reading.read_next.Goals as goal

pub returns-in_err-block-clause-memory : goal.returns-in_err-block-clause-memory
returns-in_err-block-clause-memory g c is told =
    let source = c.args.source in
    let p = err_from_is_err_and c.from_residual.result c.from_residual.ensures.1 in
    let same : c.in_err-block.field-0.0 ≡ Memory = cc (p.1, p.2, is) in
    past_takes (g.D.Disk.held c.args.disk.now) (address_in source.file source.size c.args.at) (vec_capacity c.args.buffer.now) c.args.taken.now.files.items
    (c.in_err-block.ensures.memory (ap Err same) told)
