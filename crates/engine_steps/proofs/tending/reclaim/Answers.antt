use Rattle.std.proofs.Common.{rules}
use Rattle.engine_steps.proofs.Tends.{spares, writes_by_reclaim}
use Rattle.engine_steps.proofs.tending.reclaim.Goals as goal

pub returns-in_err-reclaimed-clause-spares : goal.returns-in_err-reclaimed-clause-spares
returns-in_err-reclaimed-clause-spares g c = record {
  spared = λ flow before work stands.
      spares g.D.Disk.moment g.D.Disk.images flow c.args.store.now c.args.disk.now c.reclaim.new.disk before work.flow_is stands (c.reclaim.ensures.meaning work.works).states;
  work = search rules;
  kept = search rules;
  lot = search rules;
  alone = writes_by_reclaim g.D.Disk.moment g.D.Disk.images c.args.store.now.log.number c.args.store.now.slots c.args.disk.now c.reclaim.new.disk c.reclaim.ensures.alone;
}

pub returns-clause-spares : goal.returns-clause-spares
returns-clause-spares g c = record {
  spared = λ flow before work stands.
      spares g.D.Disk.moment g.D.Disk.images flow c.args.store.now c.args.disk.now c.reclaim.new.disk before work.flow_is stands (c.reclaim.ensures.meaning work.works).states;
  work = search rules;
  kept = search rules;
  lot = search rules;
  alone = writes_by_reclaim g.D.Disk.moment g.D.Disk.images c.args.store.now.log.number c.args.store.now.slots c.args.disk.now c.reclaim.new.disk c.reclaim.ensures.alone;
}
