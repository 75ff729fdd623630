use Rattle.std.proofs.Common.{◌≡◌, ◌∙◌, ap, inl, rules}
use Rattle.std.specs.Prelude.{Err}
use Rattle.std.proofs.lemmas.Result.{err_from_is_err_and}
use Rattle.store_core.specs.declared.error.StoreError.{StoreError}
use Rattle.run_law.proofs.Writing.{next_log}
use Rattle.engine_steps.proofs.Short.{just_begun}
use Rattle.engine_steps.proofs.Tends.{memory_of, spares, still_works, writes_by_checkpoint}
use Rattle.engine_steps.proofs.tending.checkpoint.Goals as goal

pub returns-in_err-checkpoint-clause-spares : goal.returns-in_err-checkpoint-clause-spares
returns-in_err-checkpoint-clause-spares g c = record {
  spared = λ flow before work stands.
      spares g.D.Disk.moment g.D.Disk.images flow c.args.store.now c.args.disk.now c.checkpoint.new.disk before work.flow_is stands (c.checkpoint.ensures.meaning work.works).states;
  work = search rules;
  kept = search rules;
  lot = search rules;
  alone = writes_by_checkpoint g.D.Disk.moment g.D.Disk.images c.args.store.now.log.number c.log_number-number.result c.args.disk.now c.checkpoint.new.disk c.log_number-number.ensures c.checkpoint.ensures.alone;
}

pub returns-in_err-checkpoint-clause-begun : goal.returns-in_err-checkpoint-clause-begun
returns-in_err-checkpoint-clause-begun g c = record {
  next = search rules;
  short = search rules;
  log = search rules;
  unwritten = λ is.
      let p = err_from_is_err_and c.from_residual.result c.from_residual.ensures.1 in
      let was : c.in_err-checkpoint.field-0.0 ≡ StoreError.Memory = memory_of c.in_err-checkpoint.field-0.0 c.in_err-checkpoint.ensures.refusal.kinds (cc (p.1, p.2, is)) in
      let stays = c.checkpoint.ensures.refusal.untouched (inl (c.in_err-checkpoint.was ∙ ap Err was)) in
      (stays.1, stays.0);
}

pub returns-clause-spares : goal.returns-clause-spares
returns-clause-spares g c = record {
  spared = λ flow before work stands.
      spares g.D.Disk.moment g.D.Disk.images flow c.args.store.now c.args.disk.now c.checkpoint.new.disk before work.flow_is stands (c.checkpoint.ensures.meaning work.works).states;
  work = search rules;
  kept = search rules;
  lot = search rules;
  alone = writes_by_checkpoint g.D.Disk.moment g.D.Disk.images c.args.store.now.log.number c.log_number-number.result c.args.disk.now c.checkpoint.new.disk c.log_number-number.ensures c.checkpoint.ensures.alone;
}

pub returns-clause-begun : goal.returns-clause-begun
returns-clause-begun g c =
    let number = c.log_number-number.result in
    let next = c.in_ok-checkpoint.ensures.next number c.log_number-number.ensures in
    record {
      next = λ known is. let begun = c.in_ok-checkpoint.ensures.next known is in (begun.0, begun.1);
      short = λ checkpoint image left.
          let works = still_works c.checkpoint.result c.args.store.now c.checkpoint.new.self _ c.in_ok-checkpoint.was c.requires.work.1.works c.checkpoint.ensures.refusal.failed in
          just_begun checkpoint c.checkpoint.new.self image (next.1) (c.checkpoint.ensures.kept.log works image left);
      log = next_log c.args.store.now.log.number c.checkpoint.new.self.log.number number c.log_number-number.ensures (next.0);
      unwritten = search rules;
    }
