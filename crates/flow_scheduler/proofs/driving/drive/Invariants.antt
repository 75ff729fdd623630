use Rattle.std.proofs.Common.{ℕ, ◌≤◌, IsTrue}
use Rattle.machine_model.specs.State.{Machine}
use Rattle.run_law.specs.Turns.{AreMadeAt}
use Rattle.run_law.specs.Work.{IsNoEarlier, WritesLog}
use Rattle.engine_steps.specs.Engine.{IsOfSameRun}
use Rattle.flow_scheduler.specs.Driving.{MayTurn, RunsInTurn}
use Rattle.run_law.specs.Puts.{Start, outgoing}
use Rattle.flow_scheduler.proofs.driving.drive.Given as goal

abbrev pub invariant-loop-turn : goal.invariant-loop-turn
invariant-loop-turn g l = record {
  may : MayTurn g.D.Disk.tells g.D.Disk.held g.D.Disk.moment g.D.Disk.images g.I.Inbox.tells (g.I.Inbox.left l.inbox) l.engine l.disk;
  same : IsOfSameRun l.fn.engine l.engine;
  log : IsNoEarlier l.fn.engine.store.log.number l.engine.store.log.number;
  alone : WritesLog g.D.Disk.moment g.D.Disk.images l.fn.engine.store.log.number l.fn.disk l.disk;
  later : g.C.Clock.time l.fn.clock ≤ g.C.Clock.time l.clock;
  runs : IsTrue g.D.Disk.tells → IsTrue g.I.Inbox.tells → IsTrue g.O.Outbox.tells → (opened : Machine) (first : g.row.D.Denot) (start : Start) (time : ℕ) → time ≤ g.C.Clock.time l.fn.clock
      → RunsInTurn g.D.Disk.moment g.D.Disk.images l.fn.engine opened first start time l.fn.disk (g.I.Inbox.left l.fn.inbox) (outgoing g.O.Outbox.standing g.O.Outbox.puts l.fn.outbox)
      → (at : ℕ) × (at ≤ g.C.Clock.time l.clock) × RunsInTurn g.D.Disk.moment g.D.Disk.images l.engine opened first start at l.disk (g.I.Inbox.left l.inbox) (outgoing g.O.Outbox.standing g.O.Outbox.puts l.outbox);
  moments : AreMadeAt g.C.Clock.given l.fn.engine.journal → AreMadeAt g.C.Clock.given l.engine.journal;
  disk_faults : g.D.Disk.faults l.fn.disk ≤ g.D.Disk.faults l.disk;
  inbox_faults : g.I.Inbox.faults l.fn.inbox ≤ g.I.Inbox.faults l.inbox;
  outbox_faults : g.O.Outbox.faults l.fn.outbox ≤ g.O.Outbox.faults l.outbox;
}
