use Rattle.std.proofs.Common.{◌≡◌, ap, arith}
use Rattle.std.specs.Prelude.{Ok, Err}
use Rattle.std.proofs.lemmas.Grind.{common_steps}
use Rattle.std.proofs.lemmas.Result.{err_from_is_err_and}
use Rattle.store_core.specs.Errors.{of_load}
use Rattle.store_core.specs.declared.error.StoreError.TheVariants.{Damaged}
use Rattle.store_core.proofs.KeptRead.{damaged_log, found_by}
use Rattle.store_core.proofs.Refusals.{load_damaged}
use Rattle.store_core.proofs.reading.read_kept.Goals as goal

pub returns-in_err-log-clause-damaged : goal.returns-in_err-log-clause-damaged
returns-in_err-log-clause-damaged g c damage is told =
    let p = err_from_is_err_and c.from_residual.result c.from_residual.ensures.1 in
    let same : of_load c.in_err-log.field-0.0 ≡ Damaged damage = cc (p.1, p.2, is) in
    damaged_log c.args.flow.now c.args.lot (g.D.Disk.held c.args.disk.now) damage
    (c.in_err-log.ensures.damaged damage (ap Err (load_damaged c.in_err-log.field-0.0 damage same)) told)

pub returns-in_err-state-clause-damaged : goal.returns-in_err-state-clause-damaged
returns-in_err-state-clause-damaged g c damage is told =
    let p = err_from_is_err_and c.from_residual-in_err-state.result c.from_residual-in_err-state.ensures.1 in
    let same : c.in_err-state.field-0.0 ≡ Damaged damage = cc (p.1, p.2, is) in
    found_by c.args.flow.now c.args.lot (g.D.Disk.held c.args.disk.now) (g.D.Disk.held c.load.new.disk) c.in_ok-log.log c.in_ok-log.entries.items c.number.result (Err damage)
    c.load.ensures.stays.files c.number.ensures (c.in_ok-log.ensures.loaded told) (c.in_err-state.ensures.damaged damage (ap Err same) told c.in_ok-log.log.version c.in_ok-log.log.end)

pub returns-clause-found : goal.returns-clause-found
returns-clause-found g c told = record {
  entries = c.in_ok-log.entries.items;
  current = c.in_ok-log.ensures.loaded told;
  count = grind (arith, common_steps);
  kept =
      found_by c.args.flow.now c.args.lot (g.D.Disk.held c.args.disk.now) (g.D.Disk.held c.load.new.disk) c.in_ok-log.log c.in_ok-log.entries.items c.number.result (Ok c.in_ok-state.state.kept)
      c.load.ensures.stays.files c.number.ensures (c.in_ok-log.ensures.loaded told) (c.in_ok-state.ensures.kept told c.in_ok-log.log.version c.in_ok-log.log.end);
}
