use Rattle.std.proofs.Common.{◌≡◌, ◌⊎◌, ◌<◌, ap, ◌∙◌, sym, subst, refl, List, ℕ, length, arith, rules, ⊎_elim, inl, inr, true≢false}
use Rattle.std.specs.Prelude.{Err, IsTrue, Option, Result, Some}
use Rattle.std.proofs.lemmas.Result.{err_from_is_err_and}
use Rattle.flowfile_record.specs.NamedFile.{NamedFile}
use Rattle.content_repo.specs.Claims.{content_in}
use Rattle.content_repo.proofs.Ranges.{contents-have-ranges}
use Rattle.machine_model.specs.declared.journal.Step.{Step}
use Rattle.store_core.specs.Change.{MayChange}
use Rattle.store_core.specs.Store.{kept_by}
use Rattle.run_law.specs.Ending.{journal_full}
use Rattle.run_law.specs.Puts.{outgoing}
use Rattle.engine_session.specs.Change.{names_without, without_received}
use Rattle.engine_session.specs.Done.{step_done}
use Rattle.engine_steps.specs.Engine.{AreTakeable, EngineState}
use Rattle.engine_steps.specs.Entering.{EntersSession}
use Rattle.engine_steps.specs.Flights.{names_to_come, taken_by}
use Rattle.engine_steps.specs.Journal.{journaled}
use Rattle.engine_steps.specs.Running.{Stops, undone_step}
use Rattle.engine_steps.specs.declared.error.EngineError.{EngineError}
use Rattle.engine_steps.proofs.AsRead.{longer}
use Rattle.engine_steps.proofs.Entered.{entered_as, entered_ready, enters_acknowledged, enters_refused, enters_unremoved, names_entered, queued_at, still_ready, why_refused}
use Rattle.engine_steps.proofs.Entering.{file_at, flight_at, found_at, gone_at, job_at, left_at, may_in, read_in, received_at, step_at, steps_in, takes_at, work_in}
use Rattle.engine_steps.proofs.Goes.{enters_written, goes_on_unwritten, named_so, stops_at_limit, stops_unmoved, stops_unremoved, stops_written}
use Rattle.engine_steps.proofs.Left.{takeable_fewer, takeable_without}
use Rattle.engine_steps.proofs.RunsOn.{spared_by_none}
use Rattle.engine_steps.proofs.engine.Engine.enter.Goals as goal

pub session_change-requires-clause-done : goal.session_change-requires-clause-done
session_change-requires-clause-done g c =
    let D = g.D.Disk in
    let e = c.args.self.now in
    let left = g.I.Inbox.left c.args.inbox.now in
    let out = outgoing g.O.Outbox.standing g.O.Outbox.puts c.args.outbox.now in
    let old = c.args.disk.now in
    (job_at D.tells D.held D.moment D.images e old c.requires.may.ready g.I.Inbox.tells g.O.Outbox.tells left out c.args.done c.requires.stands, may_in D.tells D.held D.moment D.images e old c.requires.may.ready g.I.Inbox.tells g.O.Outbox.tells left out c.args.done c.requires.stands _ c.self.view_is, work_in D.tells D.held D.moment D.images e old c.requires.may.ready g.I.Inbox.tells g.O.Outbox.tells left out c.args.done c.requires.stands _ c.self.view_is)

pub write-requires-clause-work : goal.write-requires-clause-work
write-requires-clause-work g c κs within =
    let D = g.D.Disk in
    let e = c.args.self.now in
    (e.flow, taken_by e.out, queued_at D.tells D.held D.moment D.images e c.args.disk.now c.requires.may.ready)

pub write-requires-clause-change : goal.write-requires-clause-change
write-requires-clause-change g c κs within =
    let D = g.D.Disk in
    let e = c.args.self.now in
    let left = g.I.Inbox.left c.args.inbox.now in
    let out = outgoing g.O.Outbox.standing g.O.Outbox.puts c.args.outbox.now in
    let old = c.args.disk.now in
    record {
      may = search rules;
      live = search rules;
      digests = λ telling.
          c.in_ok-changed.ensures.digests (job_at D.tells D.held D.moment D.images e old c.requires.may.ready g.I.Inbox.tells g.O.Outbox.tells left out c.args.done c.requires.stands) (may_in D.tells D.held D.moment D.images e old c.requires.may.ready g.I.Inbox.tells g.O.Outbox.tells left out c.args.done c.requires.stands _ c.self.view_is) (work_in D.tells D.held D.moment D.images e old c.requires.may.ready g.I.Inbox.tells g.O.Outbox.tells left out c.args.done c.requires.stands _ c.self.view_is)
          (content_in (D.held old)) (contents-have-ranges (D.held old)) (read_in D.tells D.held D.moment D.images e old c.requires.may.ready g.I.Inbox.tells g.O.Outbox.tells left out c.args.done c.requires.stands _ c.self.view_is telling);
      gone = search rules;
    }

pub remove-requires-clause-left : goal.remove-requires-clause-left
remove-requires-clause-left g c κs within =
    let D = g.D.Disk in
    let e = c.args.self.now in
    let left = g.I.Inbox.left c.args.inbox.now in
    let out = outgoing g.O.Outbox.standing g.O.Outbox.puts c.args.outbox.now in
    let old = c.args.disk.now in
    left_at D.tells D.held D.moment D.images e old c.requires.may.ready g.I.Inbox.tells g.O.Outbox.tells left out c.args.done c.requires.stands c.requires.may.left c.in_ok-received.received c.in_ok-received.ensures

pub returns-in_err-received-clause-run : goal.returns-in_err-received-clause-run
returns-in_err-received-clause-run g c telling in_telling out_telling =
    let D = g.D.Disk in
    let e = c.args.self.now in
    let left = g.I.Inbox.left c.args.inbox.now in
    let out = outgoing g.O.Outbox.standing g.O.Outbox.puts c.args.outbox.now in
    let old = c.args.disk.now in
    let p = err_from_is_err_and c.from_residual.result c.from_residual.ensures.1 in
    record {
      goes_on = λ other works unmoved opened first start time within run. run;
      stopped = λ error is opened first start time within run.
          let memory : error ≡ EngineError.Memory = cc (p.1, p.2, is) in
          let still = spared_by_none D.tells D.held D.moment D.images e.flow e.store.lot run.reached old run.to.run.holds in
          stops_unmoved D.tells D.held D.moment D.images e e opened first start time old old left out run refl refl
          c.faults_end_a_run.ensures.between refl still
          error (λ limit limited. let both : EngineError.Memory ≡ EngineError.Limit limit = sym memory ∙ limited in cc)
          time (omega arith) left out refl refl (undone_step error (Some (step_done c.args.done)));
    }

pub returns-in_err-step-clause-run : goal.returns-in_err-step-clause-run
returns-in_err-step-clause-run g c telling in_telling out_telling =
    let D = g.D.Disk in
    let e = c.args.self.now in
    let left = g.I.Inbox.left c.args.inbox.now in
    let out = outgoing g.O.Outbox.standing g.O.Outbox.puts c.args.outbox.now in
    let old = c.args.disk.now in
    let p = err_from_is_err_and c.from_residual-in_err-step.result c.from_residual-in_err-step.ensures.1 in
    record {
      goes_on = λ other works unmoved opened first start time within run. run;
      stopped = λ error is opened first start time within run.
          let memory : error ≡ EngineError.Memory = cc (p.1, p.2, is) in
          let still = spared_by_none D.tells D.held D.moment D.images e.flow e.store.lot run.reached old run.to.run.holds in
          stops_unmoved D.tells D.held D.moment D.images e e opened first start time old old left out run refl refl
          c.faults_end_a_run.ensures.between refl still
          error (λ limit limited. let both : EngineError.Memory ≡ EngineError.Limit limit = sym memory ∙ limited in cc)
          time (omega arith) left out refl refl (undone_step error (Some (step_done c.args.done)));
    }

pub returns-in_err-changed-clause-run : goal.returns-in_err-changed-clause-run
returns-in_err-changed-clause-run g c telling in_telling out_telling =
    let D = g.D.Disk in
    let e = c.args.self.now in
    let left = g.I.Inbox.left c.args.inbox.now in
    let out = outgoing g.O.Outbox.standing g.O.Outbox.puts c.args.outbox.now in
    let old = c.args.disk.now in
    let p = err_from_is_err_and c.from_residual-in_err-changed.result c.from_residual-in_err-changed.ensures.1 in
    record {
      goes_on = λ other works unmoved opened first start time within run. run;
      stopped = λ error is opened first start time within run.
          let memory : error ≡ EngineError.Memory = cc (p.1, p.2, is) in
          let still = spared_by_none D.tells D.held D.moment D.images e.flow e.store.lot run.reached old run.to.run.holds in
          stops_unmoved D.tells D.held D.moment D.images e e opened first start time old old left out run refl refl
          c.faults_end_a_run.ensures.between refl still
          error (λ limit limited. let both : EngineError.Memory ≡ EngineError.Limit limit = sym memory ∙ limited in cc)
          time (omega arith) left out refl refl (undone_step error (Some (step_done c.args.done)));
    }

pub returns-then-entries-self-clause-run : goal.returns-then-entries-self-clause-run
returns-then-entries-self-clause-run g c telling in_telling out_telling =
    let D = g.D.Disk in
    let e = c.args.self.now in
    let left = g.I.Inbox.left c.args.inbox.now in
    let out = outgoing g.O.Outbox.standing g.O.Outbox.puts c.args.outbox.now in
    let old = c.args.disk.now in
    let laws = g.met.D.Disk g.world.𝓛 g.world.𝓜 g.world.𝓡 ((λ s x. x), (λ x. x), (λ x. x), λ x. x) in
    record {
      goes_on = λ other works unmoved opened first start time within run. run;
      stopped = λ error is opened first start time within run.
          let at = steps_in D.tells D.held D.moment D.images e old c.requires.may.ready g.I.Inbox.tells g.O.Outbox.tells left out c.args.done c.requires.stands _ c.self.view_is c.what_is_kept_is_seen.ensures.sizes c.taken_files_are_sessions.ensures c.taken_files_are_live.ensures c.holds_its_state.ensures.kept
          (c.holds_its_state.ensures.held telling) (c.holds_its_state.ensures.tied telling) telling in_telling out_telling opened first start time run c.in_ok-changed.changed c.in_ok-changed.ensures.step in
          let job = job_at D.tells D.held D.moment D.images e old c.requires.may.ready g.I.Inbox.tells g.O.Outbox.tells left out c.args.done c.requires.stands in
          let one = step_at D.tells D.held D.moment D.images e old c.requires.may.ready g.I.Inbox.tells g.O.Outbox.tells left out c.args.done c.requires.stands in
          let full : length e.journal ≡ e.most = omega (arith, c.if-entries-self.true, c.entries.ensures, c.requires.may.ready.memory.entries, ap (λ (x : EngineState). x.most) c.self.view_is) in
          let told : EngineError.Limit (journal_full e.most) ≡ error = cc (is, c.journal_limit.ensures) in
          subst (λ (x : EngineError). Stops x D.tells D.held D.moment D.images e opened first start time old left out (undone_step x (Some (step_done c.args.done)))) told
          (stops_at_limit D.tells D.held D.moment D.images e e opened first start time old old left out run refl refl (content_in (D.held old)) job c.in_ok-changed.changed at.0 (step_done c.args.done) one within
          c.run_goes_on.ensures.spared (journal_full e.most) (spared_by_none D.tells D.held D.moment D.images e.flow e.store.lot run.reached old run.to.run.holds) refl refl refl
          (laws.held_is_left old telling) (inr (ap journal_full (sym full))));
    }

pub returns-in_err-moment-clause-entered : goal.returns-in_err-moment-clause-entered
returns-in_err-moment-clause-entered g c =
    let D = g.D.Disk in
    let e = c.args.self.now in
    let left = g.I.Inbox.left c.args.inbox.now in
    let out = outgoing g.O.Outbox.standing g.O.Outbox.puts c.args.outbox.now in
    let old = c.args.disk.now in
    let p = err_from_is_err_and c.from_residual-in_err-moment.result c.from_residual-in_err-moment.ensures.1 in
    subst (λ (r : Result ℕ EngineError). EntersSession r c.args.done (D.moment c.write.new.disk) g.I.Inbox.tells g.O.Outbox.tells e c.write.new.self left left out (outgoing g.O.Outbox.standing g.O.Outbox.puts c.write.new.outbox))
    (sym (p.1 ∙ ap Err p.2))
    (enters_refused D.tells D.held D.moment D.images e old c.requires.may.ready c.write.new.self c.write.new.disk c.write.result g.O.Outbox.tells c.in_ok-changed.changed out (outgoing g.O.Outbox.standing g.O.Outbox.puts c.write.new.outbox) c.in_ok-step.step c.write.ensures.written c.write.ensures.noted c.args.done c.in_ok-step.ensures c.in_ok-changed.ensures.tells.sending g.I.Inbox.tells left c.in_err-moment.field-0.0 c.in_err-moment.was)

pub returns-in_err-moment-clause-run : goal.returns-in_err-moment-clause-run
returns-in_err-moment-clause-run g c telling in_telling out_telling =
    let D = g.D.Disk in
    let e = c.args.self.now in
    let left = g.I.Inbox.left c.args.inbox.now in
    let out = outgoing g.O.Outbox.standing g.O.Outbox.puts c.args.outbox.now in
    let old = c.args.disk.now in
    let laws = g.met.D.Disk g.world.𝓛 g.world.𝓜 g.world.𝓡 ((λ s x. x), (λ x. x), (λ x. x), λ x. x) in
    let p = err_from_is_err_and c.from_residual-in_err-moment.result c.from_residual-in_err-moment.ensures.1 in
    let was : c.write.result ≡ Err c.in_err-moment.field-0.0 = c.in_err-moment.was in
    let rest = c.write.ensures.noted.rest in
    let journal_is = c.write.ensures.noted.journal ∙ ap (λ (x : Step). journaled c.write.result x e.journal) c.in_ok-step.ensures in
    record {
      goes_on = λ other works unmoved opened first start time within run.
          let at = steps_in D.tells D.held D.moment D.images e old c.requires.may.ready g.I.Inbox.tells g.O.Outbox.tells left out c.args.done c.requires.stands _ c.self.view_is c.what_is_kept_is_seen.ensures.sizes c.taken_files_are_sessions.ensures c.taken_files_are_live.ensures c.holds_its_state.ensures.kept
          (c.holds_its_state.ensures.held telling) (c.holds_its_state.ensures.tied telling) telling in_telling out_telling opened first start time run c.in_ok-changed.changed c.in_ok-changed.ensures.step in
          let job = job_at D.tells D.held D.moment D.images e old c.requires.may.ready g.I.Inbox.tells g.O.Outbox.tells left out c.args.done c.requires.stands in
          let one = step_at D.tells D.held D.moment D.images e old c.requires.may.ready g.I.Inbox.tells g.O.Outbox.tells left out c.args.done c.requires.stands in
          let no_put : c.in_err-moment.field-0.0 ≡ EngineError.Put → ⊥ = λ put. true≢false (sym (c.write.ensures.noted.failed.1 (inr (was ∙ ap Err put))) ∙ works) in
          goes_on_unwritten D.tells D.held D.moment D.images e opened first start time old c.write.new.disk left out (outgoing g.O.Outbox.standing g.O.Outbox.puts c.write.new.outbox) run
          job c.in_ok-changed.changed at.0 (step_done c.args.done) one within e.store c.write.new.self.store e.queues c.write.new.self.queues refl c.requires.may.ready.work at.1 g.O.Outbox.tells out_telling c.write.result c.write.ensures.written
          c.in_err-moment.field-0.0 was c.write.new.self (ap (λ (x : EngineState). x.flow) rest) refl journal_is
          c.run_goes_on.ensures.spared (ap (λ (x : EngineState). names_to_come x) rest) (ap (λ (x : EngineState). x.last) rest)
          (λ disk. other (p.1 ∙ ap Err (p.2 ∙ disk))) no_put;
      stopped = λ error is opened first start time within run.
          let at = steps_in D.tells D.held D.moment D.images e old c.requires.may.ready g.I.Inbox.tells g.O.Outbox.tells left out c.args.done c.requires.stands _ c.self.view_is c.what_is_kept_is_seen.ensures.sizes c.taken_files_are_sessions.ensures c.taken_files_are_live.ensures c.holds_its_state.ensures.kept
          (c.holds_its_state.ensures.held telling) (c.holds_its_state.ensures.tied telling) telling in_telling out_telling opened first start time run c.in_ok-changed.changed c.in_ok-changed.ensures.step in
          let job = job_at D.tells D.held D.moment D.images e old c.requires.may.ready g.I.Inbox.tells g.O.Outbox.tells left out c.args.done c.requires.stands in
          let one = step_at D.tells D.held D.moment D.images e old c.requires.may.ready g.I.Inbox.tells g.O.Outbox.tells left out c.args.done c.requires.stands in
          let same : c.in_err-moment.field-0.0 ≡ error = cc (p.1, p.2, is) in
          stops_written D.tells D.held D.moment D.images e opened first start time old c.write.new.disk left out (outgoing g.O.Outbox.standing g.O.Outbox.puts c.write.new.outbox) run
          job c.in_ok-changed.changed at.0 (step_done c.args.done) one within e.store c.write.new.self.store e.queues c.write.new.self.queues refl c.requires.may.ready.work at.1 g.O.Outbox.tells out_telling c.write.result c.write.ensures.written
          c.faults_end_a_run.ensures.between c.faults_end_a_run.ensures.disk c.faults_end_a_run.ensures.outbox c.run_goes_on.ensures.spared (laws.held_is_left old telling)
          (subst (λ (x : EngineState). MayChange (kept_by x.store) c.in_ok-changed.changed.settled) c.self.view_is c.in_ok-changed.ensures.may)
          error (was ∙ ap Err same) c.write.new.self (ap (λ (x : EngineState). x.flow) rest) refl journal_is
          (ap (λ (x : EngineState). names_to_come x) rest) (ap (λ (x : EngineState). x.last) rest);
    }

pub returns-in_err-moment-clause-leaves : goal.returns-in_err-moment-clause-leaves
returns-in_err-moment-clause-leaves g c =
    let D = g.D.Disk in
    let e = c.args.self.now in
    let left = g.I.Inbox.left c.args.inbox.now in
    let out = outgoing g.O.Outbox.standing g.O.Outbox.puts c.args.outbox.now in
    let old = c.args.disk.now in
    let p = err_from_is_err_and c.from_residual-in_err-moment.result c.from_residual-in_err-moment.ensures.1 in
    record {
      ready = λ other. still_ready D.tells D.held D.moment D.images e old c.requires.may.ready c.write.new.self c.write.new.disk c.write.result g.O.Outbox.tells c.in_ok-changed.changed out (outgoing g.O.Outbox.standing g.O.Outbox.puts c.write.new.outbox) c.in_ok-step.step c.write.ensures.written c.write.ensures.noted c.in_err-moment.field-0.0 c.in_err-moment.was (λ disk. other (p.1 ∙ ap Err (p.2 ∙ disk)));
      left = λ telling. subst (AreTakeable left) (sym (ap (λ (x : EngineState). names_to_come x) c.write.ensures.noted.rest)) (c.requires.may.left telling);
      works = search rules;
      known = search rules;
      failed = search rules;
      from_put = search rules;
      why = why_refused D.tells D.held D.moment D.images e old c.requires.may.ready c.write.new.self c.write.new.disk c.write.result g.O.Outbox.tells c.in_ok-changed.changed out (outgoing g.O.Outbox.standing g.O.Outbox.puts c.write.new.outbox) c.in_ok-step.step c.write.ensures.written c.write.ensures.noted
          (subst (λ (x : EngineState). MayChange (kept_by x.store) c.in_ok-changed.changed.settled) c.self.view_is c.in_ok-changed.ensures.may) c.in_err-moment.field-0.0 c.in_err-moment.was c.from_residual-in_err-moment.result (p.1 ∙ ap Err p.2);
    }

pub returns-in_err-remove-clause-entered : goal.returns-in_err-remove-clause-entered
returns-in_err-remove-clause-entered g c =
    let D = g.D.Disk in
    let e = c.args.self.now in
    let left = g.I.Inbox.left c.args.inbox.now in
    let out = outgoing g.O.Outbox.standing g.O.Outbox.puts c.args.outbox.now in
    let old = c.args.disk.now in
    let p = err_from_is_err_and c.from_residual-in_err-remove.result c.from_residual-in_err-remove.ensures.1 in
    let failed = c.in_err-remove.ensures.failed in
    let named = c.in_ok-received.ensures in
    let either : IsTrue g.I.Inbox.tells → (g.I.Inbox.left c.remove.new.inbox ≡ left) ⊎ (g.I.Inbox.left c.remove.new.inbox ≡ without_received c.args.done.given.file left) = λ telling. ⊎_elim (λ (same : g.I.Inbox.left c.remove.new.inbox ≡ left). inl same)
    (λ (gone : g.I.Inbox.left c.remove.new.inbox ≡ without_received c.in_ok-received.received left). inr (gone ∙ ap (λ (o : Option (List ℕ)). without_received o left) named))
    (failed.2 telling) in
    subst (λ (r : Result ℕ EngineError). EntersSession r c.args.done (D.moment c.write.new.disk) g.I.Inbox.tells g.O.Outbox.tells e c.leave_flight.new.self left (g.I.Inbox.left c.remove.new.inbox) out (outgoing g.O.Outbox.standing g.O.Outbox.puts c.write.new.outbox))
    (sym (p.1 ∙ ap Err (p.2 ∙ failed.0)))
    (enters_unremoved D.tells D.held D.moment D.images e old c.requires.may.ready c.write.new.self c.write.new.disk c.write.result g.O.Outbox.tells c.in_ok-changed.changed out (outgoing g.O.Outbox.standing g.O.Outbox.puts c.write.new.outbox) c.in_ok-step.step c.write.ensures.written c.write.ensures.noted c.in_ok-moment.moment c.in_ok-moment.was c.args.done c.in_ok-step.ensures (flight_at D.tells D.held D.moment D.images e old c.requires.may.ready g.I.Inbox.tells g.O.Outbox.tells left out c.args.done c.requires.stands) (found_at D.tells D.held D.moment D.images e old c.requires.may.ready g.I.Inbox.tells g.O.Outbox.tells left out c.args.done c.requires.stands) (received_at D.tells D.held D.moment D.images e old c.requires.may.ready g.I.Inbox.tells g.O.Outbox.tells left out c.args.done c.requires.stands) (gone_at D.tells D.held D.moment D.images e old c.requires.may.ready g.I.Inbox.tells g.O.Outbox.tells left out c.args.done c.requires.stands c.in_ok-changed.changed c.in_ok-changed.ensures.tells) c.leave_flight.new.self c.leave_flight.ensures c.names_go_back.ensures.back c.names_go_back.ensures.leave c.in_ok-changed.ensures.tells.sending g.I.Inbox.tells left (g.I.Inbox.left c.remove.new.inbox) either)

pub returns-in_err-remove-clause-run : goal.returns-in_err-remove-clause-run
returns-in_err-remove-clause-run g c telling in_telling out_telling =
    let D = g.D.Disk in
    let e = c.args.self.now in
    let left = g.I.Inbox.left c.args.inbox.now in
    let out = outgoing g.O.Outbox.standing g.O.Outbox.puts c.args.outbox.now in
    let old = c.args.disk.now in
    let p = err_from_is_err_and c.from_residual-in_err-remove.result c.from_residual-in_err-remove.ensures.1 in
    let failed = c.in_err-remove.ensures.failed in
    let f = c.leave_flight.new.self in
    let journal_is : f.journal ≡ journaled c.write.result (step_done c.args.done) e.journal =
    ap (λ (x : EngineState). x.journal) c.leave_flight.ensures ∙ c.write.ensures.noted.journal ∙ ap (λ (x : Step). journaled c.write.result x e.journal) c.in_ok-step.ensures in
    let flow_is : f.flow ≡ e.flow = ap (λ (x : EngineState). x.flow) (entered_as D.tells D.held D.moment D.images e old c.requires.may.ready c.write.new.self c.write.new.disk c.write.result g.O.Outbox.tells c.in_ok-changed.changed out (outgoing g.O.Outbox.standing g.O.Outbox.puts c.write.new.outbox) c.in_ok-step.step c.write.ensures.written c.write.ensures.noted c.in_ok-moment.moment c.in_ok-moment.was c.args.done c.in_ok-step.ensures (flight_at D.tells D.held D.moment D.images e old c.requires.may.ready g.I.Inbox.tells g.O.Outbox.tells left out c.args.done c.requires.stands) (found_at D.tells D.held D.moment D.images e old c.requires.may.ready g.I.Inbox.tells g.O.Outbox.tells left out c.args.done c.requires.stands) (received_at D.tells D.held D.moment D.images e old c.requires.may.ready g.I.Inbox.tells g.O.Outbox.tells left out c.args.done c.requires.stands) (gone_at D.tells D.held D.moment D.images e old c.requires.may.ready g.I.Inbox.tells g.O.Outbox.tells left out c.args.done c.requires.stands c.in_ok-changed.changed c.in_ok-changed.ensures.tells) c.leave_flight.new.self c.leave_flight.ensures) in
    let entered = journal_is ∙ ap (λ (r : Result ℕ EngineError). journaled r (step_done c.args.done) e.journal) c.in_ok-moment.was in
    record {
      goes_on = λ other works unmoved.
          absurd (longer c.args.done e.journal f.journal e.journal c.in_ok-moment.moment refl (unmoved (p.1 ∙ ap Err (p.2 ∙ failed.0))) entered);
      stopped = λ error is opened first start time within run.
          let at = steps_in D.tells D.held D.moment D.images e old c.requires.may.ready g.I.Inbox.tells g.O.Outbox.tells left out c.args.done c.requires.stands _ c.self.view_is c.what_is_kept_is_seen.ensures.sizes c.taken_files_are_sessions.ensures c.taken_files_are_live.ensures c.holds_its_state.ensures.kept
          (c.holds_its_state.ensures.held telling) (c.holds_its_state.ensures.tied telling) telling in_telling out_telling opened first start time run c.in_ok-changed.changed c.in_ok-changed.ensures.step in
          let job = job_at D.tells D.held D.moment D.images e old c.requires.may.ready g.I.Inbox.tells g.O.Outbox.tells left out c.args.done c.requires.stands in
          let one = step_at D.tells D.held D.moment D.images e old c.requires.may.ready g.I.Inbox.tells g.O.Outbox.tells left out c.args.done c.requires.stands in
          let told : EngineError.Inbox ≡ error = cc (p.1, p.2, is, failed.0) in
          let named = named_so c.in_ok-received.received failed.1 in
          let takes = takes_at D.tells D.held D.moment D.images e old c.requires.may.ready g.I.Inbox.tells g.O.Outbox.tells left out c.args.done c.requires.stands named.0 (sym c.in_ok-received.ensures ∙ named.1) in
          let either = ⊎_elim (λ (same : g.I.Inbox.left c.remove.new.inbox ≡ left). inl same)
          (λ (gone : g.I.Inbox.left c.remove.new.inbox ≡ without_received c.in_ok-received.received left). inr (gone ∙ ap (λ (o : Option (List ℕ)). without_received o left) named.1))
          (failed.2 in_telling) in
          subst (λ (x : EngineError). Stops x D.tells D.held D.moment D.images f opened first start time c.write.new.disk (g.I.Inbox.left c.remove.new.inbox) (outgoing g.O.Outbox.standing g.O.Outbox.puts c.write.new.outbox) (undone_step x (Some (step_done c.args.done)))) told
          (stops_unremoved D.tells D.held D.moment D.images e opened first start time old c.write.new.disk left out (outgoing g.O.Outbox.standing g.O.Outbox.puts c.write.new.outbox) run
          job c.in_ok-changed.changed at.0 (step_done c.args.done) one within e.store c.write.new.self.store e.queues c.write.new.self.queues refl c.requires.may.ready.work at.1 g.O.Outbox.tells out_telling c.write.result c.write.ensures.written
          c.in_ok-moment.moment c.in_ok-moment.was f flow_is (ap (λ (x : EngineState). x.store.lot) c.leave_flight.ensures) journal_is
          c.faults_end_a_run.ensures.inbox named.0 takes (g.I.Inbox.left c.remove.new.inbox) either);
    }

pub returns-in_err-remove-clause-leaves : goal.returns-in_err-remove-clause-leaves
returns-in_err-remove-clause-leaves g c =
    let D = g.D.Disk in
    let e = c.args.self.now in
    let left = g.I.Inbox.left c.args.inbox.now in
    let out = outgoing g.O.Outbox.standing g.O.Outbox.puts c.args.outbox.now in
    let old = c.args.disk.now in
    let room : length e.journal < e.most = omega (arith, c.if-entries-self.false, c.entries.ensures, ap (λ (x : EngineState). x.most) c.self.view_is) in
    record {
      ready = λ other. entered_ready D.tells D.held D.moment D.images e old c.requires.may.ready c.write.new.self c.write.new.disk c.write.result g.O.Outbox.tells c.in_ok-changed.changed out (outgoing g.O.Outbox.standing g.O.Outbox.puts c.write.new.outbox) c.in_ok-step.step c.write.ensures.written c.write.ensures.noted c.in_ok-moment.moment c.in_ok-moment.was c.args.done c.in_ok-step.ensures (flight_at D.tells D.held D.moment D.images e old c.requires.may.ready g.I.Inbox.tells g.O.Outbox.tells left out c.args.done c.requires.stands) (found_at D.tells D.held D.moment D.images e old c.requires.may.ready g.I.Inbox.tells g.O.Outbox.tells left out c.args.done c.requires.stands) (received_at D.tells D.held D.moment D.images e old c.requires.may.ready g.I.Inbox.tells g.O.Outbox.tells left out c.args.done c.requires.stands) (gone_at D.tells D.held D.moment D.images e old c.requires.may.ready g.I.Inbox.tells g.O.Outbox.tells left out c.args.done c.requires.stands c.in_ok-changed.changed c.in_ok-changed.ensures.tells) c.leave_flight.new.self c.leave_flight.ensures c.taken_files_stay.ensures room;
      left = λ telling.
          let all = c.requires.may.left telling in
          let names = names_entered D.tells D.held D.moment D.images e old c.requires.may.ready c.write.new.self c.write.new.disk c.write.result g.O.Outbox.tells c.in_ok-changed.changed out (outgoing g.O.Outbox.standing g.O.Outbox.puts c.write.new.outbox) c.in_ok-step.step c.write.ensures.written c.write.ensures.noted c.in_ok-moment.moment c.in_ok-moment.was c.args.done c.in_ok-step.ensures (flight_at D.tells D.held D.moment D.images e old c.requires.may.ready g.I.Inbox.tells g.O.Outbox.tells left out c.args.done c.requires.stands) (found_at D.tells D.held D.moment D.images e old c.requires.may.ready g.I.Inbox.tells g.O.Outbox.tells left out c.args.done c.requires.stands) (received_at D.tells D.held D.moment D.images e old c.requires.may.ready g.I.Inbox.tells g.O.Outbox.tells left out c.args.done c.requires.stands) (gone_at D.tells D.held D.moment D.images e old c.requires.may.ready g.I.Inbox.tells g.O.Outbox.tells left out c.args.done c.requires.stands c.in_ok-changed.changed c.in_ok-changed.ensures.tells) c.leave_flight.new.self c.leave_flight.ensures c.names_go_back.ensures.back c.names_go_back.ensures.leave ∙ ap (λ (o : Option (List ℕ)). names_without o (names_to_come e)) (sym c.in_ok-received.ensures) in
          subst (AreTakeable (g.I.Inbox.left c.remove.new.inbox)) (sym names) (⊎_elim
          (λ (same : g.I.Inbox.left c.remove.new.inbox ≡ left). subst (λ (files : List NamedFile). AreTakeable files (names_without c.in_ok-received.received (names_to_come e))) (sym same) (takeable_fewer c.in_ok-received.received left (names_to_come e) all))
          (λ (gone : g.I.Inbox.left c.remove.new.inbox ≡ without_received c.in_ok-received.received left). subst (λ (files : List NamedFile). AreTakeable files (names_without c.in_ok-received.received (names_to_come e))) (sym gone)
          (takeable_without c.in_ok-received.received left (names_to_come e) all))
          (c.in_err-remove.ensures.failed.2 telling));
      works = search rules;
      known = search rules;
      failed = search rules;
      from_put = search rules;
      why = search rules;
    }

pub returns-clause-entered : goal.returns-clause-entered
returns-clause-entered g c =
    let D = g.D.Disk in
    let e = c.args.self.now in
    let left = g.I.Inbox.left c.args.inbox.now in
    let out = outgoing g.O.Outbox.standing g.O.Outbox.puts c.args.outbox.now in
    let old = c.args.disk.now in
    enters_acknowledged D.tells D.held D.moment D.images e old c.requires.may.ready c.write.new.self c.write.new.disk c.write.result g.O.Outbox.tells c.in_ok-changed.changed out (outgoing g.O.Outbox.standing g.O.Outbox.puts c.write.new.outbox) c.in_ok-step.step c.write.ensures.written c.write.ensures.noted c.in_ok-moment.moment c.in_ok-moment.was c.args.done c.in_ok-step.ensures (flight_at D.tells D.held D.moment D.images e old c.requires.may.ready g.I.Inbox.tells g.O.Outbox.tells left out c.args.done c.requires.stands) (found_at D.tells D.held D.moment D.images e old c.requires.may.ready g.I.Inbox.tells g.O.Outbox.tells left out c.args.done c.requires.stands) (received_at D.tells D.held D.moment D.images e old c.requires.may.ready g.I.Inbox.tells g.O.Outbox.tells left out c.args.done c.requires.stands) (gone_at D.tells D.held D.moment D.images e old c.requires.may.ready g.I.Inbox.tells g.O.Outbox.tells left out c.args.done c.requires.stands c.in_ok-changed.changed c.in_ok-changed.ensures.tells) c.leave_flight.new.self c.leave_flight.ensures c.names_go_back.ensures.back c.names_go_back.ensures.leave c.in_ok-changed.ensures.tells.sending g.I.Inbox.tells left (g.I.Inbox.left c.remove.new.inbox)
    (λ telling. c.in_ok-remove.ensures.removed telling ∙ ap (λ (o : Option (List ℕ)). without_received o left) c.in_ok-received.ensures)

pub returns-clause-run : goal.returns-clause-run
returns-clause-run g c telling in_telling out_telling =
    let D = g.D.Disk in
    let e = c.args.self.now in
    let left = g.I.Inbox.left c.args.inbox.now in
    let out = outgoing g.O.Outbox.standing g.O.Outbox.puts c.args.outbox.now in
    let old = c.args.disk.now in
    let f = c.leave_flight.new.self in
    let journal_is : f.journal ≡ journaled c.write.result (step_done c.args.done) e.journal =
    ap (λ (x : EngineState). x.journal) c.leave_flight.ensures ∙ c.write.ensures.noted.journal ∙ ap (λ (x : Step). journaled c.write.result x e.journal) c.in_ok-step.ensures in
    let flow_is : f.flow ≡ e.flow = ap (λ (x : EngineState). x.flow) (entered_as D.tells D.held D.moment D.images e old c.requires.may.ready c.write.new.self c.write.new.disk c.write.result g.O.Outbox.tells c.in_ok-changed.changed out (outgoing g.O.Outbox.standing g.O.Outbox.puts c.write.new.outbox) c.in_ok-step.step c.write.ensures.written c.write.ensures.noted c.in_ok-moment.moment c.in_ok-moment.was c.args.done c.in_ok-step.ensures (flight_at D.tells D.held D.moment D.images e old c.requires.may.ready g.I.Inbox.tells g.O.Outbox.tells left out c.args.done c.requires.stands) (found_at D.tells D.held D.moment D.images e old c.requires.may.ready g.I.Inbox.tells g.O.Outbox.tells left out c.args.done c.requires.stands) (received_at D.tells D.held D.moment D.images e old c.requires.may.ready g.I.Inbox.tells g.O.Outbox.tells left out c.args.done c.requires.stands) (gone_at D.tells D.held D.moment D.images e old c.requires.may.ready g.I.Inbox.tells g.O.Outbox.tells left out c.args.done c.requires.stands c.in_ok-changed.changed c.in_ok-changed.ensures.tells) c.leave_flight.new.self c.leave_flight.ensures) in
    record {
      goes_on = λ other works unmoved opened first start time within run.
          let at = steps_in D.tells D.held D.moment D.images e old c.requires.may.ready g.I.Inbox.tells g.O.Outbox.tells left out c.args.done c.requires.stands _ c.self.view_is c.what_is_kept_is_seen.ensures.sizes c.taken_files_are_sessions.ensures c.taken_files_are_live.ensures c.holds_its_state.ensures.kept
          (c.holds_its_state.ensures.held telling) (c.holds_its_state.ensures.tied telling) telling in_telling out_telling opened first start time run c.in_ok-changed.changed c.in_ok-changed.ensures.step in
          let job = job_at D.tells D.held D.moment D.images e old c.requires.may.ready g.I.Inbox.tells g.O.Outbox.tells left out c.args.done c.requires.stands in
          let one = step_at D.tells D.held D.moment D.images e old c.requires.may.ready g.I.Inbox.tells g.O.Outbox.tells left out c.args.done c.requires.stands in
          let file : c.in_ok-received.received ≡ job.given.file = c.in_ok-received.ensures ∙ file_at D.tells D.held D.moment D.images e old c.requires.may.ready g.I.Inbox.tells g.O.Outbox.tells left out c.args.done c.requires.stands in
          let names : names_to_come f ≡ names_without job.given.file (names_to_come e) = names_entered D.tells D.held D.moment D.images e old c.requires.may.ready c.write.new.self c.write.new.disk c.write.result g.O.Outbox.tells c.in_ok-changed.changed out (outgoing g.O.Outbox.standing g.O.Outbox.puts c.write.new.outbox) c.in_ok-step.step c.write.ensures.written c.write.ensures.noted c.in_ok-moment.moment c.in_ok-moment.was c.args.done c.in_ok-step.ensures (flight_at D.tells D.held D.moment D.images e old c.requires.may.ready g.I.Inbox.tells g.O.Outbox.tells left out c.args.done c.requires.stands) (found_at D.tells D.held D.moment D.images e old c.requires.may.ready g.I.Inbox.tells g.O.Outbox.tells left out c.args.done c.requires.stands) (received_at D.tells D.held D.moment D.images e old c.requires.may.ready g.I.Inbox.tells g.O.Outbox.tells left out c.args.done c.requires.stands) (gone_at D.tells D.held D.moment D.images e old c.requires.may.ready g.I.Inbox.tells g.O.Outbox.tells left out c.args.done c.requires.stands c.in_ok-changed.changed c.in_ok-changed.ensures.tells) c.leave_flight.new.self c.leave_flight.ensures c.names_go_back.ensures.back c.names_go_back.ensures.leave ∙ ap (λ (o : Option (List ℕ)). names_without o (names_to_come e)) (file_at D.tells D.held D.moment D.images e old c.requires.may.ready g.I.Inbox.tells g.O.Outbox.tells left out c.args.done c.requires.stands) in
          enters_written D.tells D.held D.moment D.images e opened first start time old c.write.new.disk left out (outgoing g.O.Outbox.standing g.O.Outbox.puts c.write.new.outbox) run
          job c.in_ok-changed.changed at.0 (step_done c.args.done) one within e.store c.write.new.self.store e.queues c.write.new.self.queues refl c.requires.may.ready.work at.1 g.O.Outbox.tells out_telling c.write.result c.write.ensures.written
          c.in_ok-moment.moment c.in_ok-moment.was f flow_is (ap (λ (x : EngineState). x.store.lot) c.leave_flight.ensures) journal_is
          c.run_goes_on.ensures.step (g.I.Inbox.left c.remove.new.inbox) (c.in_ok-remove.ensures.removed in_telling ∙ ap (λ (o : Option (List ℕ)). without_received o left) file)
          (ap (λ (x : EngineState). x.last) c.leave_flight.ensures) names refl;
      stopped = λ error is. absurd cc;
    }

pub returns-clause-leaves : goal.returns-clause-leaves
returns-clause-leaves g c =
    let D = g.D.Disk in
    let e = c.args.self.now in
    let left = g.I.Inbox.left c.args.inbox.now in
    let out = outgoing g.O.Outbox.standing g.O.Outbox.puts c.args.outbox.now in
    let old = c.args.disk.now in
    let room : length e.journal < e.most = omega (arith, c.if-entries-self.false, c.entries.ensures, ap (λ (x : EngineState). x.most) c.self.view_is) in
    record {
      ready = λ other. entered_ready D.tells D.held D.moment D.images e old c.requires.may.ready c.write.new.self c.write.new.disk c.write.result g.O.Outbox.tells c.in_ok-changed.changed out (outgoing g.O.Outbox.standing g.O.Outbox.puts c.write.new.outbox) c.in_ok-step.step c.write.ensures.written c.write.ensures.noted c.in_ok-moment.moment c.in_ok-moment.was c.args.done c.in_ok-step.ensures (flight_at D.tells D.held D.moment D.images e old c.requires.may.ready g.I.Inbox.tells g.O.Outbox.tells left out c.args.done c.requires.stands) (found_at D.tells D.held D.moment D.images e old c.requires.may.ready g.I.Inbox.tells g.O.Outbox.tells left out c.args.done c.requires.stands) (received_at D.tells D.held D.moment D.images e old c.requires.may.ready g.I.Inbox.tells g.O.Outbox.tells left out c.args.done c.requires.stands) (gone_at D.tells D.held D.moment D.images e old c.requires.may.ready g.I.Inbox.tells g.O.Outbox.tells left out c.args.done c.requires.stands c.in_ok-changed.changed c.in_ok-changed.ensures.tells) c.leave_flight.new.self c.leave_flight.ensures c.taken_files_stay.ensures room;
      left = λ telling.
          let names = names_entered D.tells D.held D.moment D.images e old c.requires.may.ready c.write.new.self c.write.new.disk c.write.result g.O.Outbox.tells c.in_ok-changed.changed out (outgoing g.O.Outbox.standing g.O.Outbox.puts c.write.new.outbox) c.in_ok-step.step c.write.ensures.written c.write.ensures.noted c.in_ok-moment.moment c.in_ok-moment.was c.args.done c.in_ok-step.ensures (flight_at D.tells D.held D.moment D.images e old c.requires.may.ready g.I.Inbox.tells g.O.Outbox.tells left out c.args.done c.requires.stands) (found_at D.tells D.held D.moment D.images e old c.requires.may.ready g.I.Inbox.tells g.O.Outbox.tells left out c.args.done c.requires.stands) (received_at D.tells D.held D.moment D.images e old c.requires.may.ready g.I.Inbox.tells g.O.Outbox.tells left out c.args.done c.requires.stands) (gone_at D.tells D.held D.moment D.images e old c.requires.may.ready g.I.Inbox.tells g.O.Outbox.tells left out c.args.done c.requires.stands c.in_ok-changed.changed c.in_ok-changed.ensures.tells) c.leave_flight.new.self c.leave_flight.ensures c.names_go_back.ensures.back c.names_go_back.ensures.leave ∙ ap (λ (o : Option (List ℕ)). names_without o (names_to_come e)) (sym c.in_ok-received.ensures) in
          subst (AreTakeable (g.I.Inbox.left c.remove.new.inbox)) (sym names)
          (subst (λ (files : List NamedFile). AreTakeable files (names_without c.in_ok-received.received (names_to_come e))) (sym (c.in_ok-remove.ensures.removed telling))
          (takeable_without c.in_ok-received.received left (names_to_come e) (c.requires.may.left telling)));
      works = search rules;
      known = search rules;
      failed = search rules;
      from_put = search rules;
      why = search rules;
    }
