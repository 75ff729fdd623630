use Rattle.std.proofs.Common.{◌≡◌, inl, refl, ◌∙◌, ap, subst, arith, rules, sym, List, true≢false}
use Rattle.std.specs.Prelude.{false, Err, None, Ok, OnOk, Result, Some}
use Rattle.std.proofs.lemmas.Result.{err_from_is_err_and}
use Rattle.flowfile_record.specs.NamedFile.{NamedFile}
use Rattle.content_repo.specs.Claims.{content_in}
use Rattle.store_core.specs.Store.{kept_by}
use Rattle.machine_model.specs.Acknowledged.{steps}
use Rattle.engine_session.specs.Done.{IsWorkOn, WorkIsDone, step_done}
use Rattle.run_law.proofs.Turns.{since_start}
use Rattle.run_law.proofs.Writing.{reads_only}
use Rattle.run_law.specs.Turns.{last_worker}
use Rattle.engine_steps.specs.Engine.{EngineState}
use Rattle.engine_steps.specs.Commit.{IsJournaled}
use Rattle.engine_steps.specs.Flights.{IsCheckedOutWithin, is_in_flight}
use Rattle.engine_steps.specs.Running.{undone_step}
use Rattle.engine_steps.specs.declared.commit.Committed.{Committed}
use Rattle.engine_steps.specs.declared.error.EngineError.{EngineError}
use Rattle.engine_steps.proofs.Goes.{spared_by_read, stops_unmoved}
use Rattle.engine_steps.proofs.Reread.{still_runs}
use Rattle.engine_steps.proofs.StandsStill.{work_is_done}
use Rattle.engine_steps.proofs.AsRead.{read_same}
use Rattle.flow_scheduler.proofs.Turning.{moment_of_work, still_works, stopped_at}
use Rattle.flow_scheduler.specs.Driving.{MayTurn}
use Rattle.flow_scheduler.proofs.CheckedOut.{leaves_by_error}
use Rattle.flow_scheduler.proofs.Growing.{committed_grows, grows_behind}
use Rattle.flow_scheduler.proofs.InTurn.{commit_stops, committed_by, in_turn_of, none_stopped, turns_by, turns_of, turns_still}
use Rattle.flow_scheduler.proofs.Only.{done_flies, moment_is, none_behind, only_comes_next, only_flies, only_within}
use Rattle.flow_scheduler.proofs.Read.{commit_leaves, read_leaves}
use Rattle.run_law.specs.Puts.{outgoing}
use Rattle.flow_scheduler.proofs.driving.run_session.Goals as goal

pub returns-in_err-job-clause-run : goal.returns-in_err-job-clause-run
returns-in_err-job-clause-run g c telling in_telling out_telling opened first start time le run =
    let D = g.D.Disk in
    let e : EngineState = c.args.engine.now in
    let p = err_from_is_err_and c.from_residual.result c.from_residual.ensures.1 in
    let error = c.in_err-job.field-0.0 in
    let same = read_same c.read.result e c.read.new.self c.read.ensures.engine error c.in_err-job.was in
    stopped_at c.from_residual.result _ _ error (cc (p.1, p.2)) (record {
      next = None;
      stops = stops_unmoved D.tells D.held D.moment D.images e c.read.new.self opened first start time c.args.disk.now c.read.new.disk (g.I.Inbox.left c.args.inbox.now) (outgoing g.O.Outbox.standing g.O.Outbox.puts c.args.outbox.now)
          run.run same.0 same.1 c.faults_end_a_run.ensures.between same.2 (spared_by_read D.tells D.held D.moment D.images e.flow e.store.lot run.run.reached c.args.disk.now c.read.new.disk c.read.ensures.world.0 run.run.to.run.holds)
          error (λ limit limited. c.in_err-job.ensures.refusal.unlimited limit (ap Err limited)) c.args.moment le
          (g.I.Inbox.left c.read.new.inbox) (outgoing g.O.Outbox.standing g.O.Outbox.puts c.read.new.outbox) c.read.ensures.world.1 c.read.ensures.world.2 None;
      turns = none_stopped c.read.new.self.flow start.time c.args.moment opened c.read.new.self.journal
          (turns_still e c.read.new.self same.0 same.2 start.time c.args.moment opened (c.turns_go_on.ensures.later e.flow start.time time c.args.moment opened (steps e.journal) run.turns le));
    })

pub returns-in_err-job-clause-leaves : goal.returns-in_err-job-clause-leaves
returns-in_err-job-clause-leaves g c =
    let D = g.D.Disk in
    let e : EngineState = c.args.engine.now in
    let left = g.I.Inbox.left c.read.new.inbox in
    let p = err_from_is_err_and c.from_residual.result c.from_residual.ensures.1 in
    leaves_by_error c.read.result c.from_residual.result c.in_err-job.field-0.0 c.in_err-job.was (cc (p.1, p.2)) D.tells D.held D.moment D.images g.I.Inbox.tells left e c.read.new.self c.args.disk.now c.read.new.disk
    (read_leaves D.tells D.held D.moment D.images D.faults g.I.Inbox.faults g.O.Outbox.faults g.I.Inbox.tells e c.requires.may.works c.read.result c.in_err-job.field-0.0 c.in_err-job.was c.args.session
    (only_flies D.tells D.moment D.images c.args.moment c.args.session e c.args.disk.now c.requires.chosen) c.read.new.self c.args.disk.now c.read.new.disk c.args.inbox.now c.read.new.inbox c.args.outbox.now c.read.new.outbox left
    c.read.ensures.engine c.read.ensures.refusal c.read.ensures.world.0 c.read.ensures.usable.usable)

pub returns-in_err-done-clause-run : goal.returns-in_err-done-clause-run
returns-in_err-done-clause-run g c telling in_telling out_telling opened first start time le run =
    let D = g.D.Disk in
    let e : EngineState = c.args.engine.now in
    let same : c.read.new.self ≡ e = c.in_ok-job.ensures.engine.unchanged (λ disk. cc) in
    let p = err_from_is_err_and c.from_residual-in_err-done.result c.from_residual-in_err-done.ensures.1 in
    let flow_is : c.read.new.self.flow ≡ e.flow = ap (λ (x : EngineState). x.flow) same in
    let journal_is : c.read.new.self.journal ≡ e.journal = ap (λ (x : EngineState). x.journal) same in
    stopped_at c.from_residual-in_err-done.result _ _ EngineError.Memory (cc (p.1, p.2)) (record {
      next = None;
      stops = stops_unmoved D.tells D.held D.moment D.images e c.read.new.self opened first start time c.args.disk.now c.read.new.disk (g.I.Inbox.left c.args.inbox.now) (outgoing g.O.Outbox.standing g.O.Outbox.puts c.args.outbox.now)
          run.run flow_is (ap (λ (x : EngineState). x.store.lot) same) c.faults_end_a_run.ensures.between journal_is
          (spared_by_read D.tells D.held D.moment D.images e.flow e.store.lot run.run.reached c.args.disk.now c.read.new.disk c.read.ensures.world.0 run.run.to.run.holds)
          EngineError.Memory (λ limit limited. cc) c.args.moment le
          (g.I.Inbox.left c.read.new.inbox) (outgoing g.O.Outbox.standing g.O.Outbox.puts c.read.new.outbox) c.read.ensures.world.1 c.read.ensures.world.2 None;
      turns = none_stopped c.read.new.self.flow start.time c.args.moment opened c.read.new.self.journal
          (turns_still e c.read.new.self flow_is journal_is start.time c.args.moment opened (c.turns_go_on.ensures.later e.flow start.time time c.args.moment opened (steps e.journal) run.turns le));
    })

pub returns-in_err-done-clause-leaves : goal.returns-in_err-done-clause-leaves
returns-in_err-done-clause-leaves g c = record {
  may = search rules;
  usable = c.read.ensures.usable.usable;
  failed = search rules;
  works = search rules;
  known = search rules;
  same = search rules;
  alone = reads_only g.D.Disk.moment g.D.Disk.images c.args.engine.now.store.log.number g.D.Disk.held c.args.disk.now c.read.new.disk c.read.ensures.world.0;
  why = search rules;
}

pub returns-in_err-commit-clause-run : goal.returns-in_err-commit-clause-run
returns-in_err-commit-clause-run g c telling in_telling out_telling opened first start time le run =
    let D = g.D.Disk in
    let e : EngineState = c.args.engine.now in
    let f : EngineState = c.commit.new.self in
    let done = c.in_ok-done.done in
    let moment = c.args.moment in
    let own = c.in_ok-job.ensures.job in
    let same : c.read.new.self ≡ e = c.in_ok-job.ensures.engine.unchanged (λ disk. cc) in
    let worked = moment_of_work (kept_by e.store) own.0 c.in_ok-job.job done.given own.2.handed c.in_ok-done.ensures.given in
    let at : done.given.moment ≡ moment = worked ∙ moment_is D.tells D.moment D.images moment c.args.session e c.args.disk.now c.requires.chosen own.0 own.2.flying in
    let m = run.run.reached in
    let comes = only_comes_next D.tells D.moment D.images moment c.args.session e c.args.disk.now c.requires.chosen own.0 own.2.flying c.choices_are_seen.ensures telling m run.run.to.run.holds run.run.to.coming c.in_ok-job.job done
    own.2.handed (subst (λ (x : EngineState). IsWorkOn x.flow (kept_by x.store).store c.in_ok-job.job done) same (search rules)) worked (last_worker None (steps e.journal)) run.run.to.last in
    let turned = c.turns_go_on.ensures.next e.flow start.time time moment opened m (steps e.journal) (step_done done) run.turns run.run.to.run.ran.replays (omega (arith, le, at)) (omega (arith, at)) comes in
    let waited = c.turns_go_on.ensures.later e.flow start.time time moment opened (steps e.journal) run.turns le in
    let within = subst (λ (x : EngineState). IsCheckedOutWithin start.time moment done.session x.out) (sym same)
    (only_within D.tells D.moment D.images moment c.args.session e c.args.disk.now c.requires.chosen start.time (omega (arith, since_start start.time time (steps e.journal) run.run.to.run.within, le)) done.session) in
    let runs = still_runs D.tells D.held D.moment D.images c.args.disk.now c.read.new.disk c.read.ensures.world.0 c.run_goes_on.ensures.spared e c.read.new.self same opened first start time moment le
    (g.I.Inbox.left c.args.inbox.now) (g.I.Inbox.left c.read.new.inbox) (outgoing g.O.Outbox.standing g.O.Outbox.puts c.args.outbox.now) (outgoing g.O.Outbox.standing g.O.Outbox.puts c.read.new.outbox) c.read.ensures.world.1 c.read.ensures.world.2 run.run in
    let entered = subst (λ (x : EngineState). IsJournaled c.commit.result done (D.moment c.commit.new.disk) x f) same c.commit.ensures.entered.journal in
    let flow_is : f.flow ≡ e.flow = c.commit.ensures.alone.same.flow ∙ ap (λ (x : EngineState). x.flow) same in
    let p = err_from_is_err_and c.from_residual-in_err-commit.result c.from_residual-in_err-commit.ensures.1 in
    let error = c.in_err-commit.field-0.0 in
    stopped_at c.from_residual-in_err-commit.result _ _ error (cc (p.1, p.2)) (record {
      next = undone_step error (Some (step_done done));
      stops = (c.in_err-commit.ensures.run telling in_telling out_telling).stopped error refl (ap (λ (x : EngineState). x.failed) same ∙ c.requires.may.works) opened first start moment within runs;
      turns = in_turn_of e.flow f.flow start.time moment opened f.journal (undone_step error (Some (step_done done))) flow_is
          (commit_stops e.flow start.time moment opened done (D.moment c.commit.new.disk) e f turned waited error
          (subst (λ (r : Result Committed EngineError). IsJournaled r done (D.moment c.commit.new.disk) e f) c.in_err-commit.was entered));
    })

pub returns-in_err-commit-clause-leaves : goal.returns-in_err-commit-clause-leaves
returns-in_err-commit-clause-leaves g c =
    let D = g.D.Disk in
    let e : EngineState = c.args.engine.now in
    let own = c.in_ok-job.ensures.job in
    let done = c.in_ok-done.done in
    let left = g.I.Inbox.left c.commit.new.inbox in
    let number : done.session ≡ c.args.session = c.in_ok-done.ensures.session ∙ own.2.handed.session ∙ own.1 in
    let error = c.in_err-commit.field-0.0 in
    let p = err_from_is_err_and c.from_residual-in_err-commit.result c.from_residual-in_err-commit.ensures.1 in
    leaves_by_error c.commit.result c.from_residual-in_err-commit.result error c.in_err-commit.was (cc (p.1, p.2)) D.tells D.held D.moment D.images g.I.Inbox.tells left e c.commit.new.self c.args.disk.now c.commit.new.disk
    (commit_leaves D.tells D.held D.moment D.images D.faults g.I.Inbox.faults g.O.Outbox.faults g.I.Inbox.tells e c.requires.may.works c.commit.result done.session
    (done_flies D.tells D.moment D.images c.args.moment c.args.session e c.args.disk.now c.requires.chosen done number) c.read.new.self c.commit.new.self (c.in_ok-job.ensures.engine.unchanged (λ disk. cc)) c.args.disk.now c.read.new.disk c.commit.new.disk
    c.read.new.inbox c.commit.new.inbox c.read.new.outbox c.commit.new.outbox left c.read.ensures.world.0
    (subst (λ (r : Result Committed EngineError). OnOk r (MayTurn D.tells D.held D.moment D.images g.I.Inbox.tells left c.commit.new.self c.commit.new.disk)) (sym c.in_err-commit.was) tt) c.commit.ensures.usable.usable c.commit.ensures.alone c.commit.ensures.refusal)

pub returns-clause-run : goal.returns-clause-run
returns-clause-run g c telling in_telling out_telling opened first start time le run =
    let D = g.D.Disk in
    let e : EngineState = c.args.engine.now in
    let f : EngineState = c.commit.new.self in
    let done = c.in_ok-done.done in
    let moment = c.args.moment in
    let own = c.in_ok-job.ensures.job in
    let same : c.read.new.self ≡ e = c.in_ok-job.ensures.engine.unchanged (λ disk. cc) in
    let worked = moment_of_work (kept_by e.store) own.0 c.in_ok-job.job done.given own.2.handed c.in_ok-done.ensures.given in
    let at : done.given.moment ≡ moment = worked ∙ moment_is D.tells D.moment D.images moment c.args.session e c.args.disk.now c.requires.chosen own.0 own.2.flying in
    let m = run.run.reached in
    let comes = only_comes_next D.tells D.moment D.images moment c.args.session e c.args.disk.now c.requires.chosen own.0 own.2.flying c.choices_are_seen.ensures telling m run.run.to.run.holds run.run.to.coming c.in_ok-job.job done
    own.2.handed (subst (λ (x : EngineState). IsWorkOn x.flow (kept_by x.store).store c.in_ok-job.job done) same (search rules)) worked (last_worker None (steps e.journal)) run.run.to.last in
    let turned = c.turns_go_on.ensures.next e.flow start.time time moment opened m (steps e.journal) (step_done done) run.turns run.run.to.run.ran.replays (omega (arith, le, at)) (omega (arith, at)) comes in
    let waited = c.turns_go_on.ensures.later e.flow start.time time moment opened (steps e.journal) run.turns le in
    let within = subst (λ (x : EngineState). IsCheckedOutWithin start.time moment done.session x.out) (sym same)
    (only_within D.tells D.moment D.images moment c.args.session e c.args.disk.now c.requires.chosen start.time (omega (arith, since_start start.time time (steps e.journal) run.run.to.run.within, le)) done.session) in
    let runs = still_runs D.tells D.held D.moment D.images c.args.disk.now c.read.new.disk c.read.ensures.world.0 c.run_goes_on.ensures.spared e c.read.new.self same opened first start time moment le
    (g.I.Inbox.left c.args.inbox.now) (g.I.Inbox.left c.read.new.inbox) (outgoing g.O.Outbox.standing g.O.Outbox.puts c.args.outbox.now) (outgoing g.O.Outbox.standing g.O.Outbox.puts c.read.new.outbox) c.read.ensures.world.1 c.read.ensures.world.2 run.run in
    let entered = subst (λ (x : EngineState). IsJournaled c.commit.result done (D.moment c.commit.new.disk) x f) same c.commit.ensures.entered.journal in
    let flow_is : f.flow ≡ e.flow = c.commit.ensures.alone.same.flow ∙ ap (λ (x : EngineState). x.flow) same in
    let works : c.read.new.self.failed ≡ false = ap (λ (x : EngineState). x.failed) same ∙ c.requires.may.works in
    let number : done.session ≡ c.args.session = c.in_ok-done.ensures.session ∙ own.2.handed.session ∙ own.1 in
    let flies = ap (λ (x : EngineState). is_in_flight done.session x.out) same ∙ done_flies D.tells D.moment D.images moment c.args.session e c.args.disk.now c.requires.chosen done number in
    record {
      run = (c.in_ok-commit.ensures.run telling in_telling out_telling).goes_on (still_works c.in_ok-commit.field-0 c.read.new.self f _ _ works (c.in_ok-commit.ensures.refusal.asks.reopen flies)) (λ inbox. absurd cc) opened first start moment within runs;
      turns = turns_of e.flow f.flow start.time moment opened (steps f.journal) flow_is
          (turns_by e.flow start.time moment opened (step_done done) e.journal f.journal (committed_by e.flow start.time moment opened done (D.moment c.commit.new.disk) e f turned c.commit.result entered) waited turned);
    }

pub returns-clause-leaves : goal.returns-clause-leaves
returns-clause-leaves g c =
    let D = g.D.Disk in
    let e : EngineState = c.args.engine.now in
    let f : EngineState = c.commit.new.self in
    let own = c.in_ok-job.ensures.job in
    let done = c.in_ok-done.done in
    let left = g.I.Inbox.left c.commit.new.inbox in
    let same : c.read.new.self ≡ e = c.in_ok-job.ensures.engine.unchanged (λ disk. cc) in
    let works : c.read.new.self.failed ≡ false = ap (λ (x : EngineState). x.failed) same ∙ c.requires.may.works in
    let number : done.session ≡ c.args.session = c.in_ok-done.ensures.session ∙ own.2.handed.session ∙ own.1 in
    let flies = done_flies D.tells D.moment D.images c.args.moment c.args.session e c.args.disk.now c.requires.chosen done number in
    let well = still_works c.in_ok-commit.field-0 c.read.new.self f _ _ works (c.in_ok-commit.ensures.refusal.asks.reopen (ap (λ (x : EngineState). is_in_flight done.session x.out) same ∙ flies)) in
    let entered = subst (λ (x : EngineState). IsJournaled (Ok c.in_ok-commit.field-0) done (D.moment c.commit.new.disk) x f) same c.in_ok-commit.ensures.entered.journal in
    let may : MayTurn D.tells D.held D.moment D.images g.I.Inbox.tells left f c.commit.new.disk = record {
      may = record { ready = c.commit.ensures.usable.usable well; works = well; left = c.commit.ensures.usable.takeable well };
      none = none_behind D.tells D.moment D.images c.args.moment c.args.session e c.args.disk.now c.requires.chosen done number c.in_ok-commit.field-0 (D.moment c.commit.new.disk) f
          (λ dropped. ap (λ (x : EngineState). is_in_flight done.session x.out) (sym same) ∙ c.in_ok-commit.ensures.refusal.asks.exactly.0 (ap Ok dropped)) entered;
    } in
    let leaves = commit_leaves D.tells D.held D.moment D.images D.faults g.I.Inbox.faults g.O.Outbox.faults g.I.Inbox.tells e c.requires.may.works c.commit.result done.session flies c.read.new.self f same c.args.disk.now c.read.new.disk c.commit.new.disk
    c.read.new.inbox c.commit.new.inbox c.read.new.outbox c.commit.new.outbox left c.read.ensures.world.0
    (subst (λ (r : Result Committed EngineError). OnOk r (MayTurn D.tells D.held D.moment D.images g.I.Inbox.tells left f c.commit.new.disk)) (sym c.in_ok-commit.was) may) c.commit.ensures.usable.usable c.commit.ensures.alone c.commit.ensures.refusal in
    record {
      may = may;
      usable = leaves.usable;
      failed = λ fails. absurd (true≢false (sym fails ∙ well));
      works = λ is. absurd cc;
      known = λ is. absurd cc;
      same = leaves.same;
      alone = leaves.alone;
      why = record { limited = λ limit is. absurd cc; damaged = λ damage is. absurd cc };
    }

pub returns-in_err-job-clause-grows : goal.returns-in_err-job-clause-grows
returns-in_err-job-clause-grows g c =
    let same = read_same c.read.result c.args.engine.now c.read.new.self c.read.ensures.engine c.in_err-job.field-0.0 c.in_err-job.was in
    inl same.2

pub returns-in_err-done-clause-grows : goal.returns-in_err-done-clause-grows
returns-in_err-done-clause-grows g c = inl (ap (λ (x : EngineState). x.journal) (c.in_ok-job.ensures.engine.unchanged (λ disk. cc)))

pub returns-in_err-commit-clause-grows : goal.returns-in_err-commit-clause-grows
returns-in_err-commit-clause-grows g c =
    let e : EngineState = c.args.engine.now in
    let D = g.D.Disk in
    let own = c.in_ok-job.ensures.job in
    let at : c.in_ok-done.done.given.moment ≡ c.args.moment = moment_of_work (kept_by e.store) own.0 c.in_ok-job.job c.in_ok-done.done.given own.2.handed c.in_ok-done.ensures.given
    ∙ moment_is D.tells D.moment D.images c.args.moment c.args.session e c.args.disk.now c.requires.chosen own.0 own.2.flying in
    grows_behind c.args.moment e.journal c.read.new.self.journal c.commit.new.self.journal (ap (λ (x : EngineState). x.journal) (c.in_ok-job.ensures.engine.unchanged (λ disk. cc)))
    (committed_grows c.in_ok-done.done c.args.moment (g.D.Disk.moment c.commit.new.disk) at c.read.new.self c.commit.new.self c.commit.result c.commit.ensures.entered.journal)

pub returns-clause-grows : goal.returns-clause-grows
returns-clause-grows g c =
    let e : EngineState = c.args.engine.now in
    let D = g.D.Disk in
    let own = c.in_ok-job.ensures.job in
    let at : c.in_ok-done.done.given.moment ≡ c.args.moment = moment_of_work (kept_by e.store) own.0 c.in_ok-job.job c.in_ok-done.done.given own.2.handed c.in_ok-done.ensures.given
    ∙ moment_is D.tells D.moment D.images c.args.moment c.args.session e c.args.disk.now c.requires.chosen own.0 own.2.flying in
    grows_behind c.args.moment e.journal c.read.new.self.journal c.commit.new.self.journal (ap (λ (x : EngineState). x.journal) (c.in_ok-job.ensures.engine.unchanged (λ disk. cc)))
    (committed_grows c.in_ok-done.done c.args.moment (g.D.Disk.moment c.commit.new.disk) at c.read.new.self c.commit.new.self c.commit.result c.commit.ensures.entered.journal)

pub commit-requires-clause-done : goal.commit-requires-clause-done
commit-requires-clause-done g c κs within flight found receives =
    let e : EngineState = c.args.engine.now in
    let same : c.read.new.self ≡ e = c.in_ok-job.ensures.engine.unchanged (λ disk. cc) in
    let own = c.in_ok-job.ensures.job in
    let work = subst (λ (x : EngineState). IsWorkOn x.flow (kept_by x.store).store c.in_ok-job.job c.in_ok-done.done) same (search rules) in
    subst (λ (x : EngineState). WorkIsDone x.flow (kept_by x.store).store g.I.Inbox.tells (g.I.Inbox.left c.read.new.inbox) c.in_ok-done.done) (sym same)
    (subst (λ (left : List NamedFile). WorkIsDone e.flow (kept_by e.store).store g.I.Inbox.tells left c.in_ok-done.done) (sym c.read.ensures.world.1)
    (work_is_done g.D.Disk.tells g.I.Inbox.tells g.O.Outbox.tells e (content_in (g.D.Disk.held c.args.disk.now)) (g.I.Inbox.left c.args.inbox.now) (g.O.Outbox.standing c.args.outbox.now) own.0 c.in_ok-job.job c.in_ok-done.done own.2 work))
