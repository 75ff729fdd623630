use Rattle.std.proofs.Common.{◌≡◌, ◌⊎◌, ℕ, ◌≤◌, List, [], ◌∷◌, ◌++◌, length, refl, rules, sym, ap, subst, ◌∙◌, inl, inr, arith, length-append}
use Rattle.std.specs.Prelude.{Err, IfErr, IfOk, None, Ok, OnOk, Option, Result, Some, true, is_some, option_map}
use Rattle.std.proofs.lemmas.Result.{err_from_is_err_and}
use Rattle.content_repo.specs.Claims.{content_in}
use Rattle.kept_state.specs.declared.limit.Limit.{Limit}
use Rattle.machine_model.specs.declared.journal.Entry.{Entry}
use Rattle.machine_model.specs.declared.journal.Step.{Step}
use Rattle.machine_model.specs.declared.journal.Step.TheVariants.{Expire}
use Rattle.machine_model.specs.Due.{due_expiry}
use Rattle.store_core.specs.Store.{kept_by}
use Rattle.engine_queues.specs.Queues.{queue_seen}
use Rattle.run_law.specs.Ending.{journal_full}
use Rattle.run_law.specs.Work.{IsRefused}
use Rattle.engine_steps.specs.Engine.{EngineState, IsOfSameRun}
use Rattle.engine_steps.specs.Flights.{taken_by}
use Rattle.engine_steps.specs.Journal.{journaled}
use Rattle.engine_steps.specs.Ready.{EngineIsReady, expiry_in}
use Rattle.engine_steps.specs.Running.{IsLimited, IsRunning, Stops, undone_step}
use Rattle.engine_steps.specs.Committing.{IsAtWorkWithQueues}
use Rattle.engine_steps.specs.Tending.{HasExpired, IsKeptWithout, StepIsDone, counted_on}
use Rattle.engine_steps.specs.TendingParts.{RunsOnTended}
use Rattle.engine_steps.specs.declared.error.EngineError.{EngineError}
use Rattle.engine_steps.proofs.Expired.{are_of, at_rest_of, due_goes, due_kept}
use Rattle.engine_steps.proofs.Flights.{taken_live}
use Rattle.engine_steps.proofs.RunsBehind.{tended_idle}
use Rattle.engine_steps.proofs.RunsOn.{runs_idle, runs_stepped, runs_unwritten, stops_failed, stops_limited}
use Rattle.engine_steps.proofs.StaysReady.{ready_expired}
use Rattle.engine_steps.proofs.Tends.{journaled_kept}
use Rattle.engine_steps.proofs.engine.Engine.expire_due.Goals as goal

pub returns-in_err-expiry-clause-run : goal.returns-in_err-expiry-clause-run
returns-in_err-expiry-clause-run g c telling =
    let p = err_from_is_err_and c.from_residual.result c.from_residual.ensures.1 in
    tended_idle true c.run_goes_on.ensures.spared c.faults_end_a_run.ensures.between c.args.self.now c.args.disk.now c.args.moment (λ error is. cc (p.1, p.2, is))

pub returns-in_default-clause-run : goal.returns-in_default-clause-run
returns-in_default-clause-run g c telling =
    tended_idle true c.run_goes_on.ensures.spared c.faults_end_a_run.ensures.between c.args.self.now c.args.disk.now c.args.moment (λ error is. absurd cc)

pub returns-then-entries-self-clause-run : goal.returns-then-entries-self-clause-run
returns-then-entries-self-clause-run g c telling =
    let tells = g.D.Disk.tells in
    let held = g.D.Disk.held in
    let moment = g.D.Disk.moment in
    let images = g.D.Disk.images in
    let disk = c.args.disk.now in
    let i = c.self.inside in
    let e : EngineState = record { flow = i.flow.now; store = i.store; queues = i.queues; listing = i.listing; last = i.last; journal = i.journal.items; most = i.most; checkpoint = i.checkpoint; since_reclaim = i.since_reclaim; failed = i.has_failed; tended = i.tended; out = i.out.items; next_session = i.next_session } in
    let laws = g.met.D.Disk g.world.𝓛 g.world.𝓜 g.world.𝓡 ((λ s x. x), (λ x. x), (λ x. x), λ x. x) in
    let ready = subst (λ (u : EngineState). EngineIsReady tells held moment images u disk) (sym c.self.view_is) c.requires.ready in
    let expiry = c.in-Some.expiry in
    let due : due_expiry i.flow.now (queue_seen i.queues) c.args.moment ≡ Some (expiry.connection, expiry.numbers)
    = sym (c.in_ok-expiry.ensures i.flow.now (are_of i.flow.now (kept_by i.store) (taken_by i.out.items) i.queues ready.memory.queues)) ∙ ap (option_map (λ expiry. (expiry.connection, expiry.numbers))) c.in-Some.is in
    let kept = due_kept c.what_is_kept_is_seen.ensures.shown i.flow.now (kept_by i.store) (taken_by i.out.items) i.queues expiry.connection expiry.numbers c.args.moment c.holds_its_state.ensures.kept.0 ready.work.flow_is ready.memory.queues due in
    let sizes = c.what_is_kept_is_seen.ensures.sizes i.store (held disk) (c.holds_its_state.ensures.held telling) in
    let count : c.entries.result ≡ length i.journal.items = c.entries.ensures ∙ ap (λ (u : EngineState). length u.journal) (sym c.self.view_is) in
    let full : length e.journal ≡ e.most = omega (arith, count, c.if-entries-self.true, ready.memory.entries) in
    record {
      goes_on = λ well opened first start time left out by run. runs_idle tells held moment images c.args.self.now opened first disk start time c.args.moment by left out run c.run_goes_on.ensures.spared;
      idle = λ well none opened first start time left out run. run;
      stopped = λ error is opened first start time left out by run.
          let limited = stops_limited tells held moment images e e (record { flow = refl; most = refl; checkpoint = refl; too_large = refl; lot = refl; id = refl }) opened first disk disk start time left out
          (Expire expiry.connection expiry.numbers c.args.moment) (journal_full i.most) by
          c.run_goes_on.ensures.spared refl refl refl refl
          (λ m stands.
          let goes = due_goes c.what_is_kept_is_seen.ensures.seen c.due_expiries_may_expire.ensures i.flow.now (kept_by i.store) (taken_by i.out.items) expiry.connection expiry.numbers c.args.moment c.holds_its_state.ensures.kept.0 c.holds_its_state.ensures.kept.1
          ready.work.flow_is kept (content_in (held disk)) m sizes (c.holds_its_state.ensures.tied telling i.flow.now ready.work m stands) in
          record { after = goes.after; goes = goes.goes; is_so = (stands (held disk) (laws.held_is_left disk telling), inr (ap journal_full (sym full))) })
          (subst (λ (u : EngineState). IsRunning moment images u opened first start time disk left out) (sym c.self.view_is) run) in
          let told : EngineError.Limit (journal_full c.args.self.now.most) ≡ error = cc (is, c.journal_limit.ensures) in
          subst (λ (er : EngineError). Stops er tells held moment images c.args.self.now opened first start c.args.moment disk left out (undone_step er (expiry_in c.args.self.now c.args.moment))) told
          (subst (λ (u : EngineState). IsLimited tells held moment images u (journal_full u.most) opened first start c.args.moment disk left out (expiry_in u c.args.moment)) c.self.view_is
          (subst (λ (next : Option Step). IsLimited tells held moment images e (journal_full e.most) opened first start c.args.moment disk left out next)
          (sym (ap (option_map (λ (due : ℕ × List ℕ). Expire due.0 due.1 c.args.moment)) due)) limited));
    }

pub returns-in_err-step-clause-run : goal.returns-in_err-step-clause-run
returns-in_err-step-clause-run g c telling =
    let p = err_from_is_err_and c.from_residual-in_err-step.result c.from_residual-in_err-step.ensures.1 in
    tended_idle true c.run_goes_on.ensures.spared c.faults_end_a_run.ensures.between c.args.self.now c.args.disk.now c.args.moment (λ error is. cc (p.1, p.2, is))

pub returns-in_err-reserve-clause-run : goal.returns-in_err-reserve-clause-run
returns-in_err-reserve-clause-run g c telling =
    let tells = g.D.Disk.tells in
    let held = g.D.Disk.held in
    let moment = g.D.Disk.moment in
    let images = g.D.Disk.images in
    let disk = c.args.disk.now in
    let i = c.self.inside in
    let e : EngineState = record { flow = i.flow.now; store = i.store; queues = i.queues; listing = i.listing; last = i.last; journal = i.journal.items; most = i.most; checkpoint = i.checkpoint; since_reclaim = i.since_reclaim; failed = i.has_failed; tended = i.tended; out = i.out.items; next_session = i.next_session } in
    let p = err_from_is_err_and c.from_residual-in_err-reserve.result c.from_residual-in_err-reserve.ensures.1 in
    subst (λ (journal : List Entry). RunsOnTended c.from_residual-in_err-reserve.result true tells held moment images c.args.moment c.args.self.now (record e { journal = journal }) disk disk) (sym {A = List Entry} c.reserve.ensures.items)
    (subst (λ (u : EngineState). RunsOnTended c.from_residual-in_err-reserve.result true tells held moment images c.args.moment u e disk disk) c.self.view_is
    (tended_idle true c.run_goes_on.ensures.spared c.faults_end_a_run.ensures.between e disk c.args.moment (λ error is. cc (p.1, p.2, is))))

pub expire-expired-requires-clause-work : goal.expire-expired-requires-clause-work
expire-expired-requires-clause-work g c κs within =
    let i = c.self.inside in
    let ready = subst (λ (u : EngineState). EngineIsReady g.D.Disk.tells g.D.Disk.held g.D.Disk.moment g.D.Disk.images u c.args.disk.now) (sym c.self.view_is) c.requires.ready in (
      taken_by i.out.items,
      record {
        work = ready.work;
        are = ready.memory.queues;
        live = taken_live i.flow.now (kept_by i.store) i.listing i.next_session i.out.items ready.memory.flights;
      },
    )

pub returns-in_err-expired-clause-run : goal.returns-in_err-expired-clause-run
returns-in_err-expired-clause-run g c telling =
    let tells = g.D.Disk.tells in
    let held = g.D.Disk.held in
    let moment = g.D.Disk.moment in
    let images = g.D.Disk.images in
    let old = c.args.disk.now in
    let new = c.expire-expired.new.disk in
    let i = c.self.inside in
    let e : EngineState = record { flow = i.flow.now; store = i.store; queues = i.queues; listing = i.listing; last = i.last; journal = i.journal.items; most = i.most; checkpoint = i.checkpoint; since_reclaim = i.since_reclaim; failed = i.has_failed; tended = i.tended; out = i.out.items; next_session = i.next_session } in
    let f : EngineState = record e { store = c.expire-expired.new.store; queues = c.expire-expired.new.queues; journal = c.note.new.journal.items; tended = None } in
    let same : IsOfSameRun e f = record { flow = refl; most = refl; checkpoint = refl; too_large = refl; lot = c.expire-expired.ensures.commits.lot; id = c.expire-expired.ensures.commits.id } in
    let ready = subst (λ (u : EngineState). EngineIsReady tells held moment images u old) (sym c.self.view_is) c.requires.ready in
    let expiry = c.in-Some.expiry in
    let due : due_expiry i.flow.now (queue_seen i.queues) c.args.moment ≡ Some (expiry.connection, expiry.numbers)
    = sym (c.in_ok-expiry.ensures i.flow.now (are_of i.flow.now (kept_by i.store) (taken_by i.out.items) i.queues ready.memory.queues)) ∙ ap (option_map (λ expiry. (expiry.connection, expiry.numbers))) c.in-Some.is in
    let kept = due_kept c.what_is_kept_is_seen.ensures.shown i.flow.now (kept_by i.store) (taken_by i.out.items) i.queues expiry.connection expiry.numbers c.args.moment c.holds_its_state.ensures.kept.0 ready.work.flow_is ready.memory.queues due in
    let sizes = c.what_is_kept_is_seen.ensures.sizes i.store (held old) (c.holds_its_state.ensures.held telling) in
    let one = Expire expiry.connection expiry.numbers c.args.moment in
    let noted : c.note.new.journal.items ≡ journaled c.expire-expired.result c.in_ok-step.step c.reserve.new.self.items = c.note.ensures in
    let step_is : c.in_ok-step.step ≡ one = c.in_ok-step.ensures in
    let grown : c.note.new.journal.items ≡ journaled c.expire-expired.result one i.journal.items
    = noted ∙ ap (λ (s : Step). journaled c.expire-expired.result s c.reserve.new.self.items) step_is ∙ ap (journaled c.expire-expired.result one) c.reserve.ensures.items in
    let p = err_from_is_err_and c.from_residual-in_err-expired.result c.from_residual-in_err-expired.ensures.1 in
    let other = λ (well : c.from_residual-in_err-expired.result ≡ Err EngineError.Disk → ⊥) (disk : c.in_err-expired.field-0.0 ≡ EngineError.Disk). well (p.1 ∙ ap Err (p.2 ∙ disk)) in
    let kept_journal = λ (error : EngineError) (was : c.expire-expired.result ≡ Err error) (apart : error ≡ EngineError.Disk → ⊥).
    grown ∙ ap (λ (r : Result ℕ EngineError). journaled r one i.journal.items) was ∙ journaled_kept error one i.journal.items apart in
    record {
      goes_on = λ well opened first start time left out by run.
          runs_unwritten tells held moment images e f same opened first old new start time left out c.run_goes_on.ensures.spared c.args.moment by ((c.expire-expired.ensures.commits.unwritten c.in_err-expired.field-0.0 c.in_err-expired.was (other well)).0)
          (kept_journal c.in_err-expired.field-0.0 c.in_err-expired.was (other well)) refl refl
          (subst (λ (u : EngineState). IsRunning moment images u opened first start time old left out) (sym c.self.view_is) run);
      idle = λ well none opened first start time left out run.
          runs_unwritten tells held moment images e f same opened first old new start time left out c.run_goes_on.ensures.spared time (omega arith) ((c.expire-expired.ensures.commits.unwritten c.in_err-expired.field-0.0 c.in_err-expired.was (other well)).0)
          (kept_journal c.in_err-expired.field-0.0 c.in_err-expired.was (other well)) refl refl
          (subst (λ (u : EngineState). IsRunning moment images u opened first start time old left out) (sym c.self.view_is) run);
      stopped = λ error is opened first start time left out by run.
          let told : c.in_err-expired.field-0.0 ≡ error = cc (p.1, p.2, is) in
          let was : c.expire-expired.result ≡ Err error = c.in_err-expired.was ∙ ap Err told in
          let grew : c.note.new.journal.items ≡ journaled (Err error) one i.journal.items = grown ∙ ap (λ (r : Result ℕ EngineError). journaled r one i.journal.items) was in
          let kinds = subst (λ (r : Result ℕ EngineError). IfErr r (λ er. (er ≡ EngineError.Disk) ⊎ (er ≡ EngineError.Memory) ⊎ ((limit : Limit) × (er ≡ EngineError.Limit limit)))) was c.expire-expired.ensures.refusal.kinds in
          subst (λ (next : Option Step). Stops error tells held moment images f opened first start c.args.moment new left out (undone_step error next))
          (sym (ap (option_map (λ (due : ℕ × List ℕ). Expire due.0 due.1 c.args.moment)) due) ∙ ap (λ (u : EngineState). expiry_in u c.args.moment) c.self.view_is)
          (stops_failed tells held moment images e f same opened first old new start time left out c.worlds_follow_steps.ensures.queues one tt by
          c.run_goes_on.ensures.spared c.faults_end_a_run.ensures.between c.faults_end_a_run.ensures.disk error refl refl
          (λ disk. grew ∙ ap (λ (er : EngineError). journaled (Err er) one i.journal.items) disk)
          (λ disk m stands. (c.expire-expired.ensures.step telling m stands).cut_off (was ∙ ap Err disk))
          (λ apart. ((c.expire-expired.ensures.commits.unwritten error was apart).0, kept_journal error was apart))
          (λ limit at m stands. (c.expire-expired.ensures.step telling m stands).limited limit (was ∙ ap Err at))
          (subst (λ (u : EngineState). IsRunning moment images u opened first start time old left out) (sym c.self.view_is) run) kinds);
    }

pub returns-in_err-expired-clause-lets_go : goal.returns-in_err-expired-clause-lets_go
returns-in_err-expired-clause-lets_go g c =
    let tells = g.D.Disk.tells in
    let held = g.D.Disk.held in
    let moment = g.D.Disk.moment in
    let images = g.D.Disk.images in
    let old = c.args.disk.now in
    let new = c.expire-expired.new.disk in
    let i = c.self.inside in
    let e : EngineState = record { flow = i.flow.now; store = i.store; queues = i.queues; listing = i.listing; last = i.last; journal = i.journal.items; most = i.most; checkpoint = i.checkpoint; since_reclaim = i.since_reclaim; failed = i.has_failed; tended = i.tended; out = i.out.items; next_session = i.next_session } in
    let f : EngineState = record e { store = c.expire-expired.new.store; queues = c.expire-expired.new.queues; journal = c.note.new.journal.items; tended = None } in
    let ready = subst (λ (u : EngineState). EngineIsReady tells held moment images u old) (sym c.self.view_is) c.requires.ready in
    let expiry = c.in-Some.expiry in
    let due : due_expiry i.flow.now (queue_seen i.queues) c.args.moment ≡ Some (expiry.connection, expiry.numbers)
    = sym (c.in_ok-expiry.ensures i.flow.now (are_of i.flow.now (kept_by i.store) (taken_by i.out.items) i.queues ready.memory.queues)) ∙ ap (option_map (λ expiry. (expiry.connection, expiry.numbers))) c.in-Some.is in
    let one = Expire expiry.connection expiry.numbers c.args.moment in
    let noted : c.note.new.journal.items ≡ journaled c.expire-expired.result c.in_ok-step.step c.reserve.new.self.items = c.note.ensures in
    let step_is : c.in_ok-step.step ≡ one = c.in_ok-step.ensures in
    let grown : c.note.new.journal.items ≡ journaled c.expire-expired.result one i.journal.items
    = noted ∙ ap (λ (s : Step). journaled c.expire-expired.result s c.reserve.new.self.items) step_is ∙ ap (journaled c.expire-expired.result one) c.reserve.ensures.items in
    let p = err_from_is_err_and c.from_residual-in_err-expired.result c.from_residual-in_err-expired.ensures.1 in
    record {
      expired = search rules;
      cut_off = λ is.
          let told : c.in_err-expired.field-0.0 ≡ EngineError.Disk = cc (p.1, p.2, is) in
          let was : c.expire-expired.result ≡ Err EngineError.Disk = c.in_err-expired.was ∙ ap Err told in
          let had : HasExpired c.args.moment None e f = record {
            connection = expiry.connection;
            numbers = expiry.numbers;
            due = due;
            journal = grown ∙ ap (λ (r : Result ℕ EngineError). journaled r one i.journal.items) was;
            kept = c.expire-expired.ensures.commits.cut_off was;
          } in
          subst (λ (u : EngineState). HasExpired c.args.moment None u f) c.self.view_is had;
      kept = λ error is apart.
          let told : c.in_err-expired.field-0.0 ≡ error = cc (p.1, p.2, is) in
          let was : c.expire-expired.result ≡ Err error = c.in_err-expired.was ∙ ap Err told in
          let unwritten = c.expire-expired.ensures.commits.unwritten error was apart in
          subst (λ (u : EngineState). (f.journal ≡ u.journal) × (kept_by f.store ≡ kept_by u.store) × (new ≡ old)) c.self.view_is (
            grown ∙ ap (λ (r : Result ℕ EngineError). journaled r one i.journal.items) was ∙ journaled_kept error one i.journal.items apart,
            ap kept_by unwritten.1,
            unwritten.0,
          );
      since = search rules;
      none = search rules;
    }

pub returns-in_err-expired-clause-refusal : goal.returns-in_err-expired-clause-refusal
returns-in_err-expired-clause-refusal g c = record {
  kinds = search rules;
  limited = λ limit is.
      let p = err_from_is_err_and c.from_residual-in_err-expired.result c.from_residual-in_err-expired.ensures.1 in
      let told : c.in_err-expired.field-0.0 ≡ EngineError.Limit limit = cc (p.1, p.2, is) in
      inl (subst (λ (u : EngineState). IsRefused u.flow g.D.Disk.tells g.D.Disk.held g.D.Disk.moment g.D.Disk.images limit c.expire-expired.new.store c.expire-expired.new.disk) c.self.view_is
      (c.expire-expired.ensures.refusal.limited limit (c.in_err-expired.was ∙ ap Err told)));
}

pub returns-clause-due : goal.returns-clause-due
returns-clause-due g c =
    let i = c.self.inside in
    let ready = subst (λ (u : EngineState). EngineIsReady g.D.Disk.tells g.D.Disk.held g.D.Disk.moment g.D.Disk.images u c.args.disk.now) (sym c.self.view_is) c.requires.ready in
    let due : due_expiry i.flow.now (queue_seen i.queues) c.args.moment ≡ Some (c.in-Some.expiry.connection, c.in-Some.expiry.numbers)
    = sym (c.in_ok-expiry.ensures i.flow.now (are_of i.flow.now (kept_by i.store) (taken_by i.out.items) i.queues ready.memory.queues)) ∙ ap (option_map (λ expiry. (expiry.connection, expiry.numbers))) c.in-Some.is in
    subst (λ (u : EngineState). true ≡ is_some (due_expiry u.flow (queue_seen u.queues) c.args.moment)) c.self.view_is (sym (ap is_some due))

pub returns-clause-run : goal.returns-clause-run
returns-clause-run g c telling =
    let tells = g.D.Disk.tells in
    let held = g.D.Disk.held in
    let moment = g.D.Disk.moment in
    let images = g.D.Disk.images in
    let old = c.args.disk.now in
    let new = c.expire-expired.new.disk in
    let i = c.self.inside in
    let e : EngineState = record { flow = i.flow.now; store = i.store; queues = i.queues; listing = i.listing; last = i.last; journal = i.journal.items; most = i.most; checkpoint = i.checkpoint; since_reclaim = i.since_reclaim; failed = i.has_failed; tended = i.tended; out = i.out.items; next_session = i.next_session } in
    let f : EngineState = record e { store = c.expire-expired.new.store; queues = c.expire-expired.new.queues; journal = c.note.new.journal.items; since_reclaim = c.saturating_add-self-inside.result; tended = None } in
    let same : IsOfSameRun e f = record { flow = refl; most = refl; checkpoint = refl; too_large = refl; lot = c.expire-expired.ensures.commits.lot; id = c.expire-expired.ensures.commits.id } in
    let ready = subst (λ (u : EngineState). EngineIsReady tells held moment images u old) (sym c.self.view_is) c.requires.ready in
    let expiry = c.in-Some.expiry in
    let due : due_expiry i.flow.now (queue_seen i.queues) c.args.moment ≡ Some (expiry.connection, expiry.numbers)
    = sym (c.in_ok-expiry.ensures i.flow.now (are_of i.flow.now (kept_by i.store) (taken_by i.out.items) i.queues ready.memory.queues)) ∙ ap (option_map (λ expiry. (expiry.connection, expiry.numbers))) c.in-Some.is in
    let kept = due_kept c.what_is_kept_is_seen.ensures.shown i.flow.now (kept_by i.store) (taken_by i.out.items) i.queues expiry.connection expiry.numbers c.args.moment c.holds_its_state.ensures.kept.0 ready.work.flow_is ready.memory.queues due in
    let sizes = c.what_is_kept_is_seen.ensures.sizes i.store (held old) (c.holds_its_state.ensures.held telling) in
    let one = Expire expiry.connection expiry.numbers c.args.moment in
    let noted : c.note.new.journal.items ≡ journaled c.expire-expired.result c.in_ok-step.step c.reserve.new.self.items = c.note.ensures in
    let step_is : c.in_ok-step.step ≡ one = c.in_ok-step.ensures in
    let grown : c.note.new.journal.items ≡ journaled c.expire-expired.result one i.journal.items
    = noted ∙ ap (λ (s : Step). journaled c.expire-expired.result s c.reserve.new.self.items) step_is ∙ ap (journaled c.expire-expired.result one) c.reserve.ensures.items in
    let made : c.expire-expired.result ≡ Ok (moment new)
    = c.in_ok-expired.was ∙ ap Ok (subst (λ (r : Result ℕ EngineError). IfOk r (λ at. at ≡ moment new)) c.in_ok-expired.was c.expire-expired.ensures.commits.moment_is) in
    let journal : c.note.new.journal.items ≡ i.journal.items ++ record { step = one; acked = Some (moment new) } ∷ [] = grown ∙ ap (λ (r : Result ℕ EngineError). journaled r one i.journal.items) made in
    record {
      goes_on = λ well opened first start time left out by run.
          runs_stepped tells held moment images e f same opened first old new start time left out c.worlds_follow_steps.ensures.queues one tt by
          c.run_goes_on.ensures.step journal refl refl
          (λ m stands. subst (λ (r : Result ℕ EngineError). OnOk r (StepIsDone i.flow.now moment images i.store.lot m one old new)) made (c.expire-expired.ensures.step telling m stands).done)
          (subst (λ (u : EngineState). IsRunning moment images u opened first start time old left out) (sym c.self.view_is) run);
      idle = λ well none opened first start time left out run. absurd (none refl);
      stopped = λ error is opened first start time left out by run. absurd {A = Stops error tells held moment images f opened first start c.args.moment new left out (undone_step error (expiry_in c.args.self.now c.args.moment))} cc;
    }

pub returns-clause-lets_go : goal.returns-clause-lets_go
returns-clause-lets_go g c =
    let tells = g.D.Disk.tells in
    let held = g.D.Disk.held in
    let moment = g.D.Disk.moment in
    let images = g.D.Disk.images in
    let old = c.args.disk.now in
    let new = c.expire-expired.new.disk in
    let i = c.self.inside in
    let e : EngineState = record { flow = i.flow.now; store = i.store; queues = i.queues; listing = i.listing; last = i.last; journal = i.journal.items; most = i.most; checkpoint = i.checkpoint; since_reclaim = i.since_reclaim; failed = i.has_failed; tended = i.tended; out = i.out.items; next_session = i.next_session } in
    let f : EngineState = record e { store = c.expire-expired.new.store; queues = c.expire-expired.new.queues; journal = c.note.new.journal.items; since_reclaim = c.saturating_add-self-inside.result; tended = None } in
    let ready = subst (λ (u : EngineState). EngineIsReady tells held moment images u old) (sym c.self.view_is) c.requires.ready in
    let expiry = c.in-Some.expiry in
    let due : due_expiry i.flow.now (queue_seen i.queues) c.args.moment ≡ Some (expiry.connection, expiry.numbers)
    = sym (c.in_ok-expiry.ensures i.flow.now (are_of i.flow.now (kept_by i.store) (taken_by i.out.items) i.queues ready.memory.queues)) ∙ ap (option_map (λ expiry. (expiry.connection, expiry.numbers))) c.in-Some.is in
    let one = Expire expiry.connection expiry.numbers c.args.moment in
    let noted : c.note.new.journal.items ≡ journaled c.expire-expired.result c.in_ok-step.step c.reserve.new.self.items = c.note.ensures in
    let step_is : c.in_ok-step.step ≡ one = c.in_ok-step.ensures in
    let grown : c.note.new.journal.items ≡ journaled c.expire-expired.result one i.journal.items
    = noted ∙ ap (λ (s : Step). journaled c.expire-expired.result s c.reserve.new.self.items) step_is ∙ ap (journaled c.expire-expired.result one) c.reserve.ensures.items in
    let made : c.expire-expired.result ≡ Ok (moment new)
    = c.in_ok-expired.was ∙ ap Ok (subst (λ (r : Result ℕ EngineError). IfOk r (λ at. at ≡ moment new)) c.in_ok-expired.was c.expire-expired.ensures.commits.moment_is) in
    let journal : c.note.new.journal.items ≡ i.journal.items ++ record { step = one; acked = Some (moment new) } ∷ [] = grown ∙ ap (λ (r : Result ℕ EngineError). journaled r one i.journal.items) made in
    record {
      expired = λ is.
          let had : HasExpired c.args.moment (Some (moment new)) e f = record {
            connection = expiry.connection;
            numbers = expiry.numbers;
            due = due;
            journal = journal;
            kept = subst (λ (r : Result ℕ EngineError). OnOk r (IsKeptWithout expiry.numbers (kept_by i.store) (kept_by c.expire-expired.new.store))) made c.expire-expired.ensures.commits.kept;
          } in
          let more : f.since_reclaim ≡ counted_on e.since_reclaim = c.saturating_add-self-inside.ensures in
          subst (λ (u : EngineState). HasExpired c.args.moment (Some (moment new)) u f × (f.since_reclaim ≡ counted_on u.since_reclaim)) c.self.view_is (had, more);
      cut_off = search rules;
      kept = search rules;
      since = search rules;
      none = search rules;
    }

pub returns-clause-leaves : goal.returns-clause-leaves
returns-clause-leaves g c =
    let tells = g.D.Disk.tells in
    let held = g.D.Disk.held in
    let moment = g.D.Disk.moment in
    let images = g.D.Disk.images in
    let old = c.args.disk.now in
    let new = c.expire-expired.new.disk in
    let i = c.self.inside in
    let e : EngineState = record { flow = i.flow.now; store = i.store; queues = i.queues; listing = i.listing; last = i.last; journal = i.journal.items; most = i.most; checkpoint = i.checkpoint; since_reclaim = i.since_reclaim; failed = i.has_failed; tended = i.tended; out = i.out.items; next_session = i.next_session } in
    let ready = subst (λ (u : EngineState). EngineIsReady tells held moment images u old) (sym c.self.view_is) c.requires.ready in
    let expiry = c.in-Some.expiry in
    let one = Expire expiry.connection expiry.numbers c.args.moment in
    let noted : c.note.new.journal.items ≡ journaled c.expire-expired.result c.in_ok-step.step c.reserve.new.self.items = c.note.ensures in
    let step_is : c.in_ok-step.step ≡ one = c.in_ok-step.ensures in
    let grown : c.note.new.journal.items ≡ journaled c.expire-expired.result one i.journal.items
    = noted ∙ ap (λ (s : Step). journaled c.expire-expired.result s c.reserve.new.self.items) step_is ∙ ap (journaled c.expire-expired.result one) c.reserve.ensures.items in
    let made : c.expire-expired.result ≡ Ok (moment new)
    = c.in_ok-expired.was ∙ ap Ok (subst (λ (r : Result ℕ EngineError). IfOk r (λ at. at ≡ moment new)) c.in_ok-expired.was c.expire-expired.ensures.commits.moment_is) in
    let journal : c.note.new.journal.items ≡ i.journal.items ++ record { step = one; acked = Some (moment new) } ∷ [] = grown ∙ ap (λ (r : Result ℕ EngineError). journaled r one i.journal.items) made in
    let count : c.entries.result ≡ length i.journal.items = c.entries.ensures ∙ ap (λ (u : EngineState). length u.journal) (sym c.self.view_is) in
    let due : due_expiry i.flow.now (queue_seen i.queues) c.args.moment ≡ Some (expiry.connection, expiry.numbers)
    = sym (c.in_ok-expiry.ensures i.flow.now (are_of i.flow.now (kept_by i.store) (taken_by i.out.items) i.queues ready.memory.queues)) ∙ ap (option_map (λ expiry. (expiry.connection, expiry.numbers))) c.in-Some.is in
    let at_rest = at_rest_of c.what_is_kept_is_seen.ensures.shown c.what_expires_is_at_rest.ensures i.flow.now (kept_by i.store) (taken_by i.out.items) i.queues expiry.connection expiry.numbers c.args.moment
    c.holds_its_state.ensures.kept.0 ready.work.flow_is ready.memory.queues due in
    let room : length c.note.new.journal.items ≤ i.most = subst (λ (es : List Entry). length es ≤ i.most) (sym journal) (omega (arith, length-append i.journal.items (record { step = one; acked = Some (moment new) } ∷ []), count, c.if-entries-self.false)) in
    let with_queues : IsAtWorkWithQueues i.flow.now tells held moment images i.store (taken_by i.out.items) i.queues old = record {
      work = ready.work;
      are = ready.memory.queues;
      live = taken_live i.flow.now (kept_by i.store) i.listing i.next_session i.out.items ready.memory.flights;
    } in
    let work = subst
    (λ (r : Result ℕ EngineError). OnOk r ((out : List ℕ) → IsAtWorkWithQueues i.flow.now tells held moment images i.store out i.queues old
    → IsAtWorkWithQueues i.flow.now tells held moment images c.expire-expired.new.store out c.expire-expired.new.queues new)) made c.expire-expired.ensures.work (taken_by i.out.items) with_queues in
    let kept = subst (λ (r : Result ℕ EngineError). OnOk r (IsKeptWithout expiry.numbers (kept_by i.store) (kept_by c.expire-expired.new.store))) made c.expire-expired.ensures.commits.kept in
    record {
      ready = λ well. record {
        work = work.work;
        memory = ready_expired e c.expire-expired.new.store ready.memory c.taken_files_stay.ensures c.expire-expired.new.queues c.note.new.journal.items c.saturating_add-self-inside.result expiry.numbers at_rest
            kept work.work.flow_is work.are room;
      };
      same = search rules;
      listing = search rules;
      last = search rules;
      out = search rules;
      next_session = search rules;
      failed = search rules;
      alone = search rules;
      cause = search rules;
    }
