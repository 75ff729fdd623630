use Rattle.std.proofs.Common.{◌≡◌, ◌∙◌, ap, inl, refl, rules, sym, subst, arith}
use Rattle.std.specs.Prelude.{Err, None}
use Rattle.std.proofs.lemmas.Result.{err_from_is_err_and}
use Rattle.flowfile_record.specs.Stored.{Kept}
use Rattle.run_law.specs.Work.{IsAtWork, WritesLog}
use Rattle.engine_steps.specs.Engine.{EngineState, IsOfSameRun}
use Rattle.engine_steps.specs.Ready.{EngineIsReady}
use Rattle.engine_steps.specs.Running.{IsRunning, Stops}
use Rattle.engine_steps.specs.declared.error.EngineError.{EngineError}
use Rattle.engine_steps.proofs.RunsOn.{runs_spared, stops_by}
use Rattle.engine_steps.proofs.StaysReady.{ready_spared}
use Rattle.engine_steps.proofs.engine.Engine.reclaim_due.Goals as goal

pub returns-in_err-reclaimed-clause-run : goal.returns-in_err-reclaimed-clause-run
returns-in_err-reclaimed-clause-run g c =
    let tells = g.D.Disk.tells in
    let held = g.D.Disk.held in
    let moment = g.D.Disk.moment in
    let images = g.D.Disk.images in
    let old = c.args.disk.now in
    let new = c.reclaim.new.disk in
    let i = c.self.inside in
    let e : EngineState = record { flow = i.flow.now; store = i.store; queues = i.queues; listing = i.listing; last = i.last; journal = i.journal.items; most = i.most; checkpoint = i.checkpoint; since_reclaim = i.since_reclaim; failed = i.has_failed; tended = i.tended; out = i.out.items; next_session = i.next_session } in
    let f : EngineState = record e { store = c.reclaim.new.store; tended = None } in
    let same : IsOfSameRun e f = record { flow = refl; most = refl; checkpoint = refl; too_large = refl; lot = c.reclaim.ensures.spares.lot; id = ap (λ (k : Kept). k.store) c.reclaim.ensures.spares.kept } in
    let work = subst (λ (u : EngineState). IsAtWork u.flow tells held moment images u.store old) (sym c.self.view_is) c.requires.work in
    let p = err_from_is_err_and c.from_residual.result c.from_residual.ensures.1 in
    record {
      goes_on = λ well opened first start time left out run.
          runs_spared tells held moment images e f same opened first old new start time left out c.run_goes_on.ensures.spared time (omega arith) refl refl refl
          (λ m stands. c.reclaim.ensures.spares.spared i.flow.now m work stands)
          (subst (λ (u : EngineState). IsRunning moment images u opened first start time old left out) (sym c.self.view_is) run);
      stopped = λ error is opened first start time left out next run.
          let told : c.in_err-reclaimed.field-0.0 ≡ error = cc (p.1, p.2, is) in
          let kind : c.in_err-reclaimed.field-0.0 ≡ EngineError.Disk = c.in_err-reclaimed.ensures.kinds in
          stops_by tells held moment images e f same opened first old new start time left out c.faults_end_a_run.ensures.between error (inl (sym told ∙ kind)) time (omega arith) refl
          (λ m stands. c.reclaim.ensures.spares.spared i.flow.now m work stands)
          (subst (λ (u : EngineState). IsRunning moment images u opened first start time old left out) (sym c.self.view_is) run) next;
    }

pub returns-in_err-reclaimed-clause-leaves : goal.returns-in_err-reclaimed-clause-leaves
returns-in_err-reclaimed-clause-leaves g c =
    let i = c.self.inside in
    let e : EngineState = record { flow = i.flow.now; store = i.store; queues = i.queues; listing = i.listing; last = i.last; journal = i.journal.items; most = i.most; checkpoint = i.checkpoint; since_reclaim = i.since_reclaim; failed = i.has_failed; tended = i.tended; out = i.out.items; next_session = i.next_session } in
    let f : EngineState = record e { store = c.reclaim.new.store; tended = None } in
    let p = err_from_is_err_and c.from_residual.result c.from_residual.ensures.1 in
    record {
      ready = λ well. absurd {A = EngineIsReady g.D.Disk.tells g.D.Disk.held g.D.Disk.moment g.D.Disk.images f c.reclaim.new.disk} (well (p.1 ∙ ap Err (p.2 ∙ c.in_err-reclaimed.ensures.kinds)));
      same = search rules;
      listing = search rules;
      last = search rules;
      out = search rules;
      next_session = search rules;
      failed = search rules;
      alone = subst (λ (u : EngineState). WritesLog g.D.Disk.moment g.D.Disk.images u.store.log.number c.args.disk.now c.reclaim.new.disk) c.self.view_is c.reclaim.ensures.spares.alone;
      cause = search rules;
    }

pub returns-clause-run : goal.returns-clause-run
returns-clause-run g c =
    let tells = g.D.Disk.tells in
    let held = g.D.Disk.held in
    let moment = g.D.Disk.moment in
    let images = g.D.Disk.images in
    let old = c.args.disk.now in
    let new = c.reclaim.new.disk in
    let i = c.self.inside in
    let e : EngineState = record { flow = i.flow.now; store = i.store; queues = i.queues; listing = i.listing; last = i.last; journal = i.journal.items; most = i.most; checkpoint = i.checkpoint; since_reclaim = i.since_reclaim; failed = i.has_failed; tended = i.tended; out = i.out.items; next_session = i.next_session } in
    let f : EngineState = record e { store = c.reclaim.new.store; since_reclaim = 0; tended = None } in
    let same : IsOfSameRun e f = record { flow = refl; most = refl; checkpoint = refl; too_large = refl; lot = c.reclaim.ensures.spares.lot; id = ap (λ (k : Kept). k.store) c.reclaim.ensures.spares.kept } in
    let work = subst (λ (u : EngineState). IsAtWork u.flow tells held moment images u.store old) (sym c.self.view_is) c.requires.work in
    record {
      goes_on = λ well opened first start time left out run.
          runs_spared tells held moment images e f same opened first old new start time left out c.run_goes_on.ensures.spared time (omega arith) refl refl refl
          (λ m stands. c.reclaim.ensures.spares.spared i.flow.now m work stands)
          (subst (λ (u : EngineState). IsRunning moment images u opened first start time old left out) (sym c.self.view_is) run);
      stopped = λ error is opened first start time left out next run. absurd {A = Stops error tells held moment images f opened first start time new left out next} cc;
    }

pub returns-clause-leaves : goal.returns-clause-leaves
returns-clause-leaves g c =
    let tells = g.D.Disk.tells in
    let held = g.D.Disk.held in
    let moment = g.D.Disk.moment in
    let images = g.D.Disk.images in
    let old = c.args.disk.now in
    let new = c.reclaim.new.disk in
    let i = c.self.inside in
    let e : EngineState = record { flow = i.flow.now; store = i.store; queues = i.queues; listing = i.listing; last = i.last; journal = i.journal.items; most = i.most; checkpoint = i.checkpoint; since_reclaim = i.since_reclaim; failed = i.has_failed; tended = i.tended; out = i.out.items; next_session = i.next_session } in
    let ready = subst (λ (u : EngineState). EngineIsReady tells held moment images u old) (sym c.self.view_is) c.requires in
    record {
      ready = λ well. record {
        work = c.in_ok-reclaimed.ensures.spares.work i.flow.now ready.work;
        memory = ready_spared e c.reclaim.new.store ready.memory 0 c.reclaim.ensures.spares.kept;
      };
      same = search rules;
      listing = search rules;
      last = search rules;
      out = search rules;
      next_session = search rules;
      failed = search rules;
      alone = subst (λ (u : EngineState). WritesLog g.D.Disk.moment g.D.Disk.images u.store.log.number c.args.disk.now c.reclaim.new.disk) c.self.view_is c.reclaim.ensures.spares.alone;
      cause = search rules;
    }
