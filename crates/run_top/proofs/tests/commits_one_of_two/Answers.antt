use Rattle.engine_steps.specs.Engine.{EngineState}
use Rattle.run_top.proofs.StillUsable.{done_in_run}
use Rattle.run_top.proofs.tests.commits_one_of_two.Goals as goal

pub commit-requires-clause-done : goal.commit-requires-clause-done
commit-requires-clause-done g c κs within flight found receives =
    let e : EngineState = c.works.new.engine in
    let f : EngineState = c.works-2.new.engine in
    let left = g.I.Inbox.left c.works-2.new.inbox in
    done_in_run e f g.I.Inbox.tells left c.in_ok-one.one c.in_ok-other.ensures.same.0 c.in_ok-other.ensures.same.1 (c.in_ok-one.ensures.done left)

pub commit-requires-2-clause-done : goal.commit-requires-2-clause-done
commit-requires-2-clause-done g c κs within flight found receives =
    let e : EngineState = c.works-2.new.engine in
    let f : EngineState = c.commit.new.self in
    let left = g.I.Inbox.left c.commit.new.inbox in
    done_in_run e f g.I.Inbox.tells left c.in_ok-other.other c.commit.ensures.alone.same.flow c.commit.ensures.alone.same.id (c.in_ok-other.ensures.done left)
