use Rattle.std.proofs.Common.{rules, ◌≡◌, sym, ◌∙◌, inr, true, false, true≢false}
use Rattle.content_repo.specs.Claims.{content_in}
use Rattle.engine_steps.specs.Engine.{EngineState}
use Rattle.engine_steps.proofs.Flights.{flying_found, found_flies}
use Rattle.engine_steps.proofs.Worked.{work_on_flight}
use Rattle.engine_steps.proofs.engine.Engine.stands_read_again.Goals as goal

pub returns-clause-so : goal.returns-clause-so
returns-clause-so g c is flight found next =
    let e : EngineState = c.args.self.now in
    let job = c.in_ok-job.job in
    let own = c.in_ok-job.ensures.job flight found in
    let same = c.is_work_on.ensures.0 (cc) in (
      flight,
      job,
      next,
      own,
      work_on_flight g.D.Disk.tells g.I.Inbox.tells g.O.Outbox.tells e (content_in (g.D.Disk.held c.args.disk.now)) (g.I.Inbox.left c.args.inbox.now) (g.O.Outbox.standing c.args.outbox.now) flight job c.args.done.now
          (c.requires.done flight found) own same,
    )

pub returns-clause-otherwise : goal.returns-clause-otherwise
returns-clause-otherwise g c is =
    let e : EngineState = c.args.self.now in
    let not : c.is_work_on.result ≡ false = cc in
    let found = flying_found c.args.done.now.session e.out c.requires.flying in
    let flies = found_flies c.args.done.now.session e.out found.0 found.1 in
    (found.0, flies.0, flies.1, inr (c.in_ok-job.job, c.in_ok-job.ensures.job found.0 found.1, λ same. let told : c.is_work_on.result ≡ true = c.is_work_on.ensures.1 same in true≢false (sym told ∙ not)))

pub returns-in_err-job-clause-refusal : goal.returns-in_err-job-clause-refusal
returns-in_err-job-clause-refusal g c = record {
  unlimited = search rules;
  works = search rules;
  known = search rules;
  unput = search rules;
  damaged = λ damage is. c.in_err-job.ensures.leaves.contents.damaged damage (search rules);
}
