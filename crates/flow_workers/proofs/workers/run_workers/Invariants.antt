use Rattle.std.specs.Prelude.{None, Some}
use Rattle.store_core.specs.Store.{kept_by}
use Rattle.flow_workers.proofs.workers.run_workers.Given as goal

-- the run of this engine, over these devices
abbrev pub ghosts-drive-R-Named : goal.ghosts-drive-R-Named
ghosts-drive-R-Named g a = record {
  flow = a.engine.flow;
  store = (kept_by a.engine.store).store;
  files = g.I.Inbox.left a.lent.inbox.now;
  lent = (a.lent.disk.ghost_name, a.lent.inbox.ghost_name, a.lent.outbox.ghost_name, a.lent.clock.ghost_name);
}

abbrev pub ghosts-drive-R-Run : goal.ghosts-drive-R-Run
ghosts-drive-R-Run g a = record {
  began = Some (record { engine = a.engine; disk = a.lent.disk.now; inbox = a.lent.inbox.now; outbox = a.lent.outbox.now; clock = a.lent.clock.now; cause = None });
}
