use Rattle.std.proofs.Common.{◌≡◌, true}
use Rattle.engine_steps.specs.Engine.{EngineState}
use Rattle.engine_steps.specs.Flights.{is_in_flight}
use Rattle.run_top.proofs.StillUsable.{done_in_run, same_ended, usable_ended}
use Rattle.run_top.proofs.tests.ends_before_its_commit.Goals as goal

pub commit-requires-clause-usable : goal.commit-requires-clause-usable
commit-requires-clause-usable g c κs within =
    let D = g.D.Disk in
    let e : EngineState = c.works.new.engine in
    let flying : is_in_flight c.in_ok-done.done.session e.out ≡ true = cc in
    usable_ended D.tells D.held D.moment D.images g.I.Inbox.tells (g.I.Inbox.left c.works.new.inbox) e c.end.new.self c.works.new.disk c.in_ok-done.ensures.usable c.end.ensures.ready c.in_ok-done.done.session flying c.end.ensures.ended

pub commit-requires-clause-done : goal.commit-requires-clause-done
commit-requires-clause-done g c κs within flight found receives =
    let e : EngineState = c.works.new.engine in
    let f : EngineState = c.end.new.self in
    let left = g.I.Inbox.left c.works.new.inbox in
    let done = c.in_ok-done.done in
    let flying : is_in_flight done.session e.out ≡ true = cc in
    let same = same_ended done.session e f flying c.end.ensures.ended in
    done_in_run e f g.I.Inbox.tells left done same.0 same.1 (c.in_ok-done.ensures.done left)
