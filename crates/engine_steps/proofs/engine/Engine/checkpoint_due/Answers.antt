use Rattle.std.proofs.Common.{◌≡◌, ◌⊎◌, ◌∙◌, ap, inl, inr, refl, rules, sym, subst, arith}
use Rattle.std.specs.Prelude.{Err, None}
use Rattle.std.proofs.lemmas.Result.{err_from_is_err_and}
use Rattle.flowfile_record.specs.Stored.{Kept}
use Rattle.run_law.specs.Work.{IsAtWork, IsNoEarlier, HasShortLog, WritesLog}
use Rattle.engine_steps.specs.Engine.{EngineState, IsOfSameRun}
use Rattle.engine_steps.specs.Ready.{EngineIsReady}
use Rattle.engine_steps.specs.Running.{IsRunning, Stops}
use Rattle.engine_steps.specs.Tending.{IsCheckpointed}
use Rattle.engine_steps.specs.declared.error.EngineError.{EngineError}
use Rattle.engine_steps.proofs.RunsOn.{runs_spared, stops_by}
use Rattle.engine_steps.proofs.Short.{no_log_due}
use Rattle.engine_steps.proofs.StaysReady.{ready_spared, ready_unwritten}
use Rattle.engine_steps.proofs.engine.Engine.checkpoint_due.Goals as goal

pub checkpoint-requires-clause-number : goal.checkpoint-requires-clause-number
checkpoint-requires-clause-number g c κs within number is = c.wants_checkpoint.ensures.next c.if-not-wants_checkpoint.false number is

pub returns-then-not-wants_checkpoint-clause-begins : goal.returns-then-not-wants_checkpoint-clause-begins
returns-then-not-wants_checkpoint-clause-begins g c = record {
  made = search rules;
  none = search rules;
  short = λ is image left.
      let i = c.self.inside in
      let work = subst (λ (u : EngineState). IsAtWork u.flow g.D.Disk.tells g.D.Disk.held g.D.Disk.moment g.D.Disk.images u.store c.args.disk.now) (sym c.self.view_is) c.requires.work in
      subst (λ (u : EngineState). HasShortLog u.checkpoint image) c.self.view_is
      (no_log_due i.checkpoint i.store image c.wants_checkpoint.ensures.counted (sym c.wants_checkpoint.ensures.due ∙ c.if-not-wants_checkpoint.true) (work.kept.log work.works image left));
  unwritten = search rules;
  kept = search rules;
  rest = search rules;
}

pub returns-in_err-checkpoint-clause-run : goal.returns-in_err-checkpoint-clause-run
returns-in_err-checkpoint-clause-run g c =
    let tells = g.D.Disk.tells in
    let held = g.D.Disk.held in
    let moment = g.D.Disk.moment in
    let images = g.D.Disk.images in
    let old = c.args.disk.now in
    let new = c.checkpoint.new.disk in
    let i = c.self.inside in
    let e : EngineState = record { flow = i.flow.now; store = i.store; queues = i.queues; listing = i.listing; last = i.last; journal = i.journal.items; most = i.most; checkpoint = i.checkpoint; since_reclaim = i.since_reclaim; failed = i.has_failed; tended = i.tended; out = i.out.items; next_session = i.next_session } in
    let f : EngineState = record e { store = c.checkpoint.new.store; tended = None } in
    let same : IsOfSameRun e f = record { flow = refl; most = refl; checkpoint = refl; too_large = refl; lot = c.checkpoint.ensures.spares.lot; id = ap (λ (k : Kept). k.store) c.checkpoint.ensures.spares.kept } in
    let work = subst (λ (u : EngineState). IsAtWork u.flow tells held moment images u.store old) (sym c.self.view_is) c.requires.work in
    let p = err_from_is_err_and c.from_residual.result c.from_residual.ensures.1 in
    record {
      goes_on = λ well opened first start time left out run.
          runs_spared tells held moment images e f same opened first old new start time left out c.run_goes_on.ensures.spared time (omega arith) refl refl refl
          (λ m stands. c.checkpoint.ensures.spares.spared i.flow.now m work stands)
          (subst (λ (u : EngineState). IsRunning moment images u opened first start time old left out) (sym c.self.view_is) run);
      stopped = λ error is opened first start time left out next run.
          let told : c.in_err-checkpoint.field-0.0 ≡ error = cc (p.1, p.2, is) in
          stops_by tells held moment images e f same opened first old new start time left out c.faults_end_a_run.ensures.between error
          (subst (λ (er : EngineError). (er ≡ EngineError.Disk) ⊎ (er ≡ EngineError.Memory)) told c.in_err-checkpoint.ensures.kinds) time (omega arith) refl
          (λ m stands. c.checkpoint.ensures.spares.spared i.flow.now m work stands)
          (subst (λ (u : EngineState). IsRunning moment images u opened first start time old left out) (sym c.self.view_is) run) next;
    }

pub returns-in_err-checkpoint-clause-leaves : goal.returns-in_err-checkpoint-clause-leaves
returns-in_err-checkpoint-clause-leaves g c =
    let tells = g.D.Disk.tells in
    let held = g.D.Disk.held in
    let moment = g.D.Disk.moment in
    let images = g.D.Disk.images in
    let old = c.args.disk.now in
    let new = c.checkpoint.new.disk in
    let i = c.self.inside in
    let e : EngineState = record { flow = i.flow.now; store = i.store; queues = i.queues; listing = i.listing; last = i.last; journal = i.journal.items; most = i.most; checkpoint = i.checkpoint; since_reclaim = i.since_reclaim; failed = i.has_failed; tended = i.tended; out = i.out.items; next_session = i.next_session } in
    let ready = subst (λ (u : EngineState). EngineIsReady tells held moment images u old) (sym c.self.view_is) c.requires in
    let p = err_from_is_err_and c.from_residual.result c.from_residual.ensures.1 in
    record {
      ready = λ well. elim c.in_err-checkpoint.ensures.kinds [
        | inl disk ↦ absurd (well (p.1 ∙ ap Err (p.2 ∙ disk)))
        | inr memory ↦
            let stays = c.checkpoint.ensures.begun.unwritten (c.in_err-checkpoint.was ∙ ap Err memory) in
            ready_unwritten tells held moment images e c.checkpoint.new.store old new ready stays.0 stays.1
      ];
      same = search rules;
      listing = search rules;
      last = search rules;
      out = search rules;
      next_session = search rules;
      failed = search rules;
      alone = subst (λ (u : EngineState). WritesLog g.D.Disk.moment g.D.Disk.images u.store.log.number c.args.disk.now c.checkpoint.new.disk) c.self.view_is c.checkpoint.ensures.spares.alone;
      cause = search rules;
    }

pub returns-clause-begins : goal.returns-clause-begins
returns-clause-begins g c = record {
  made = λ is. subst (λ (u : EngineState). IsCheckpointed u.store c.checkpoint.new.store) c.self.view_is c.in_ok-checkpoint.ensures.begun.next;
  none = search rules;
  short = search rules;
  unwritten = search rules;
  kept = search rules;
  rest = search rules;
}

pub returns-clause-run : goal.returns-clause-run
returns-clause-run g c =
    let tells = g.D.Disk.tells in
    let held = g.D.Disk.held in
    let moment = g.D.Disk.moment in
    let images = g.D.Disk.images in
    let old = c.args.disk.now in
    let new = c.checkpoint.new.disk in
    let i = c.self.inside in
    let e : EngineState = record { flow = i.flow.now; store = i.store; queues = i.queues; listing = i.listing; last = i.last; journal = i.journal.items; most = i.most; checkpoint = i.checkpoint; since_reclaim = i.since_reclaim; failed = i.has_failed; tended = i.tended; out = i.out.items; next_session = i.next_session } in
    let f : EngineState = record e { store = c.checkpoint.new.store; tended = None } in
    let same : IsOfSameRun e f = record { flow = refl; most = refl; checkpoint = refl; too_large = refl; lot = c.checkpoint.ensures.spares.lot; id = ap (λ (k : Kept). k.store) c.checkpoint.ensures.spares.kept } in
    let work = subst (λ (u : EngineState). IsAtWork u.flow tells held moment images u.store old) (sym c.self.view_is) c.requires.work in
    record {
      goes_on = λ well opened first start time left out run.
          runs_spared tells held moment images e f same opened first old new start time left out c.run_goes_on.ensures.spared time (omega arith) refl refl refl
          (λ m stands. c.checkpoint.ensures.spares.spared i.flow.now m work stands)
          (subst (λ (u : EngineState). IsRunning moment images u opened first start time old left out) (sym c.self.view_is) run);
      stopped = λ error is opened first start time left out next run. absurd {A = Stops error tells held moment images f opened first start time new left out next} cc;
    }

pub returns-clause-leaves : goal.returns-clause-leaves
returns-clause-leaves g c =
    let tells = g.D.Disk.tells in
    let held = g.D.Disk.held in
    let moment = g.D.Disk.moment in
    let images = g.D.Disk.images in
    let old = c.args.disk.now in
    let new = c.checkpoint.new.disk in
    let i = c.self.inside in
    let e : EngineState = record { flow = i.flow.now; store = i.store; queues = i.queues; listing = i.listing; last = i.last; journal = i.journal.items; most = i.most; checkpoint = i.checkpoint; since_reclaim = i.since_reclaim; failed = i.has_failed; tended = i.tended; out = i.out.items; next_session = i.next_session } in
    let ready = subst (λ (u : EngineState). EngineIsReady tells held moment images u old) (sym c.self.view_is) c.requires in
    record {
      ready = λ well. record {
        work = c.in_ok-checkpoint.ensures.spares.work i.flow.now ready.work;
        memory = ready_spared e c.checkpoint.new.store ready.memory i.since_reclaim c.checkpoint.ensures.spares.kept;
      };
      same = search rules;
      listing = search rules;
      last = search rules;
      out = search rules;
      next_session = search rules;
      failed = search rules;
      alone = subst (λ (u : EngineState). WritesLog g.D.Disk.moment g.D.Disk.images u.store.log.number c.args.disk.now c.checkpoint.new.disk) c.self.view_is c.checkpoint.ensures.spares.alone;
      cause = search rules;
    }

pub returns-clause-log : goal.returns-clause-log
returns-clause-log g c =
    subst (λ (u : EngineState). IsNoEarlier u.store.log.number c.checkpoint.new.store.log.number) c.self.view_is c.in_ok-checkpoint.ensures.begun.log
