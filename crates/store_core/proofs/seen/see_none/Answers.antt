use Rattle.std.proofs.Common.{◌≡◌, refl, ap}
use Rattle.std.specs.Prelude.{Err}
use Rattle.std.proofs.lemmas.Result.{err_from_is_err_and}
use Rattle.block_file.specs.declared.error.BlockError.{BlockError}
use Rattle.store_core.specs.New.{kept_anew}
use Rattle.store_core.specs.Seen.{no_flow}
use Rattle.store_core.proofs.Refusals.{block_damaged}
use Rattle.store_core.proofs.Seeing.{torn_event}
use Rattle.store_core.proofs.seen.see_none.Goals as goal

pub returns-in_err-events-clause-damaged : goal.returns-in_err-events-clause-damaged
returns-in_err-events-clause-damaged g c damage is told =
    let p = err_from_is_err_and c.from_residual.result c.from_residual.ensures.1 in
    let same : c.in_err-events.field-0.0 ≡ BlockError.Damaged damage = block_damaged c.in_err-events.field-0.0 damage (cc (p.1, p.2, is)) in
    torn_event (g.D.Disk.held c.args.disk.now) (kept_anew no_flow 0) damage refl (c.in_err-events.ensures.damaged damage (ap Err same) told)
