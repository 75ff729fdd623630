use Rattle.std.proofs.Common.{arith}
use Rattle.flow_scheduler.proofs.Opened.{opened_may_go_on}
use Rattle.run_top.proofs.tests.engine_over.Goals as goal

pub returns : goal.returns
returns g c =
    let D = g.D.Disk in
    record {
      may = opened_may_go_on c.args.flow.now c.in-Ok.store 9 _ c.in-Ok-new.engine c.in-Ok-new.ensures.opened D.tells D.held D.moment D.images g.I.Inbox.tells (g.I.Inbox.left c.args.inbox.now) (g.I.Inbox.left c.new.new.inbox) c.open.new.disk
          c.requires.sound (omega arith) c.in-Ok.ensures.opened.work c.in-Ok-new.ensures.listed;
    }
