use Rattle.std.proofs.lemmas.Result.{IfErr-weaker, IfOk-weaker}
use Rattle.run_top.proofs.Runs.{runs, shown_counts}
use Rattle.run_top.proofs.command.run_read.Goals as goal

pub show-requires-clause-closed : goal.show-requires-clause-closed
show-requires-clause-closed g c = IfOk-weaker c.run_over-run.result _ _ (λ ran over. over.closed) c.run_over-run.ensures.ran

pub show-requires-clause-refused : goal.show-requires-clause-refused
show-requires-clause-refused g c = IfErr-weaker c.run_over-run.result _ _ (λ answer over. over.refused) c.run_over-run.ensures.refused

pub returns-clause-runs : goal.returns-clause-runs
returns-clause-runs g c =
    let D = g.D.Disk in
    runs c.args.flow.now c.show.result g.C.Clock.given (g.C.Clock.time c.args.clock.now) (g.C.Clock.time c.run_over-run.new.clock) c.args.lot c.args.options D.tells D.held D.moment D.images c.args.disk.now c.run_over-run.new.disk
    g.I.Inbox.tells g.I.Inbox.left c.args.inbox.now c.run_over-run.new.inbox g.O.Outbox.tells g.O.Outbox.standing g.O.Outbox.puts c.args.outbox.now c.run_over-run.new.outbox g.S.Sink.tells g.S.Sink.written g.S.Sink.faults c.args.sink.now c.show.new.sink
    c.run_over-run.result c.run_over-run.ensures.ran c.run_over-run.ensures.refused c.run_over-run.ensures.shut c.run_over-run.ensures.why
    c.show.ensures.told c.show.ensures.printed c.show.ensures.line

pub returns-clause-faults : goal.returns-clause-faults
returns-clause-faults g c = (shown_counts c.run_over-run.result c.show.result _ _ _ _ _ _ c.show.ensures.told c.run_over-run.ensures.faults, c.show.ensures.faults)
