use Rattle.std.proofs.Common.{◌≡◌, true, false, inl, ap, refl, subst, sym, ◌∙◌, arith, rules}
use Rattle.std.specs.Prelude.{Err, IsErrOf, Ok, Some}
use Rattle.std.proofs.lemmas.Result.{err_from_is_err_and}
use Rattle.run_law.proofs.Writing.{reads_only}
use Rattle.engine_session.specs.Done.{step_done}
use Rattle.engine_steps.specs.Ending.{SessionHasEnded}
use Rattle.engine_steps.specs.Engine.{EngineState}
use Rattle.engine_steps.specs.Flights.{is_in_flight}
use Rattle.engine_steps.specs.Ready.{IsReadyInMemory}
use Rattle.engine_steps.specs.Running.{undone_step}
use Rattle.engine_steps.specs.declared.error.EngineError.{EngineError}
use Rattle.engine_steps.proofs.Goes.{spared_by_read, stops_unmoved}
use Rattle.engine_steps.proofs.Entering.{within_at}
use Rattle.engine_steps.proofs.AsRead.{as_read, lot_read, read_well, same_error}
use Rattle.engine_steps.proofs.Reread.{still_goes_on, still_ready, still_runs, still_stands}
use Rattle.engine_steps.proofs.SessionEnded.{ended_leaves, ended_runs, ended_same_run, ended_unjournaled}
use Rattle.run_law.specs.Puts.{outgoing}
use Rattle.engine_steps.proofs.Follows.{follows_behind, follows_still}
use Rattle.engine_steps.proofs.engine.Engine.commit_job.Goals as goal

pub returns-in_err-stands-clause-entered : goal.returns-in_err-stands-clause-entered
returns-in_err-stands-clause-entered g c = record {
  journal = search rules;
  inbox = search rules;
  outbox = search rules;
  follow = follows_still _ _ _ _ _ _ _ _ _ _ (ap (λ (x : EngineState). x.journal) c.stands.ensures.reread.rest) (λ telling. c.stands.ensures.reread.inbox) (λ telling. c.stands.ensures.reread.outbox);
}

pub returns-in_err-stands-clause-run : goal.returns-in_err-stands-clause-run
returns-in_err-stands-clause-run g c telling in_telling out_telling =
    let D = g.D.Disk in
    let e : EngineState = c.args.self.now in
    let left = g.I.Inbox.left c.args.inbox.now in
    let out = outgoing g.O.Outbox.standing g.O.Outbox.puts c.args.outbox.now in
    let p = err_from_is_err_and c.from_residual.result c.from_residual.ensures.1 in
    record {
      goes_on = λ other works unmoved opened first start time within run.
          let same = as_read c.stands.result e c.stands.new.self c.stands.ensures.reread.store c.stands.ensures.reread.rest (λ disk. other (p.1 ∙ ap Err (p.2 ∙ same_error c.in_err-stands.field-0.0 EngineError.Disk (sym c.in_err-stands.was ∙ disk)))) in
          still_runs D.tells D.held D.moment D.images c.args.disk.now c.stands.new.disk c.stands.ensures.reread.disk c.run_goes_on.ensures.spared e c.stands.new.self same opened first start time time (omega arith)
          left (g.I.Inbox.left c.stands.new.inbox) out (outgoing g.O.Outbox.standing g.O.Outbox.puts c.stands.new.outbox) c.stands.ensures.reread.inbox c.stands.ensures.reread.outbox run;
      stopped = λ error is opened first start time within run.
          let same : c.in_err-stands.field-0.0 ≡ error = cc (p.1, p.2, is) in
          stops_unmoved D.tells D.held D.moment D.images e c.stands.new.self opened first start time c.args.disk.now c.stands.new.disk left out run
          (ap (λ (x : EngineState). x.flow) c.stands.ensures.reread.rest) (lot_read c.stands.result e.store c.stands.new.self.store c.stands.ensures.reread.store) c.faults_end_a_run.ensures.between (ap (λ (x : EngineState). x.journal) c.stands.ensures.reread.rest)
          (spared_by_read D.tells D.held D.moment D.images e.flow e.store.lot run.reached c.args.disk.now c.stands.new.disk c.stands.ensures.reread.disk run.to.run.holds)
          error (λ limit limited. c.in_err-stands.ensures.refusal.unlimited limit (ap Err (same ∙ limited))) time (omega arith)
          (g.I.Inbox.left c.stands.new.inbox) (outgoing g.O.Outbox.standing g.O.Outbox.puts c.stands.new.outbox) c.stands.ensures.reread.inbox c.stands.ensures.reread.outbox (undone_step error (Some (step_done c.args.done)));
    }

pub returns-in_err-stands-clause-leaves : goal.returns-in_err-stands-clause-leaves
returns-in_err-stands-clause-leaves g c = record {
  ready = λ other.
      let D = g.D.Disk in
      let e : EngineState = c.args.self.now in
      let p = err_from_is_err_and c.from_residual.result c.from_residual.ensures.1 in
      let same = as_read c.stands.result e c.stands.new.self c.stands.ensures.reread.store c.stands.ensures.reread.rest (λ disk. other (p.1 ∙ ap Err (p.2 ∙ same_error c.in_err-stands.field-0.0 EngineError.Disk (sym c.in_err-stands.was ∙ disk)))) in
      still_ready D.tells D.held D.moment D.images c.args.disk.now c.stands.new.disk c.stands.ensures.reread.disk e c.stands.new.self same c.requires.may.ready;
  left = search rules;
  works = search rules;
  known = search rules;
  failed = search rules;
  from_put = search rules;
  why = search rules;
}

pub returns-in_err-stands-clause-alone : goal.returns-in_err-stands-clause-alone
returns-in_err-stands-clause-alone g c = record {
  same = search rules;
  log = search rules;
  next_session = search rules;
  alone = reads_only g.D.Disk.moment g.D.Disk.images c.args.self.now.store.log.number g.D.Disk.held c.args.disk.now c.stands.new.disk c.stands.ensures.reread.disk;
}

pub give_back-requires-clause-ready : goal.give_back-requires-clause-ready
give_back-requires-clause-ready g c =
    let e : EngineState = c.args.self.now in
    let same = as_read c.stands.result e c.stands.new.self c.stands.ensures.reread.store c.stands.ensures.reread.rest (λ disk. read_well c.in_ok-stands.field-0 EngineError.Disk (sym c.in_ok-stands.was ∙ disk)) in
    subst IsReadyInMemory (sym same) c.requires.may.ready.memory

pub give_back-requires-clause-flying : goal.give_back-requires-clause-flying
give_back-requires-clause-flying g c =
    let e : EngineState = c.args.self.now in
    let same = as_read c.stands.result e c.stands.new.self c.stands.ensures.reread.store c.stands.ensures.reread.rest (λ disk. read_well c.in_ok-stands.field-0 EngineError.Disk (sym c.in_ok-stands.was ∙ disk)) in
    ap (λ (x : EngineState). is_in_flight c.args.done.session x.out) same ∙ c.requires.flying

pub returns-then-not-branch-clause-entered : goal.returns-then-not-branch-clause-entered
returns-then-not-branch-clause-entered g c =
    let e : EngineState = c.args.self.now in
    let new : EngineState = c.give_back.new.self in
    let same = as_read c.stands.result e c.stands.new.self c.stands.ensures.reread.store c.stands.ensures.reread.rest (λ disk. read_well c.in_ok-stands.field-0 EngineError.Disk (sym c.in_ok-stands.was ∙ disk)) in
    let ended = subst (λ (x : EngineState). SessionHasEnded c.args.done.session x new) same c.give_back.ensures.ended in
    record {
      journal = (ended_unjournaled c.args.done.session e new ended, ended);
      inbox = λ telling. c.stands.ensures.reread.inbox;
      outbox = λ telling. c.stands.ensures.reread.outbox;
      follow = follows_still _ _ _ _ _ _ _ _ _ _ (ended_unjournaled c.args.done.session e new ended).0 (λ telling. c.stands.ensures.reread.inbox) (λ telling. c.stands.ensures.reread.outbox);
    }

pub returns-then-not-branch-clause-stands : goal.returns-then-not-branch-clause-stands
returns-then-not-branch-clause-stands g c =
    let e : EngineState = c.args.self.now in
    let new : EngineState = c.give_back.new.self in
    let was = c.in_ok-stands.was in
    let there = c.in_ok-stands.is in
    let no = c.if-not-branch.true in
    let so : c.stands.result ≡ Ok false = cc in
    let same = as_read c.stands.result e c.stands.new.self c.stands.ensures.reread.store c.stands.ensures.reread.rest (λ disk. read_well c.in_ok-stands.field-0 EngineError.Disk (sym c.in_ok-stands.was ∙ disk)) in
    let ended = subst (λ (x : EngineState). SessionHasEnded c.args.done.session x new) same c.give_back.ensures.ended in
    record {
      stands = inl (record {
        journal = ap (λ (x : EngineState). x.journal) ended.rest;
        limit = λ limit is. absurd cc;
        failed = λ failed. inl (sym (ap (λ (x : EngineState). x.failed) ended.rest) ∙ failed);
      });
      changed = λ is. (c.stands.ensures.otherwise so, c.stands.ensures.reread.disk, c.stands.ensures.reread.outbox);
    }

pub returns-then-not-branch-clause-run : goal.returns-then-not-branch-clause-run
returns-then-not-branch-clause-run g c telling in_telling out_telling =
    let D = g.D.Disk in
    let e : EngineState = c.args.self.now in
    let left = g.I.Inbox.left c.args.inbox.now in
    let now_left = g.I.Inbox.left c.stands.new.inbox in
    let out = outgoing g.O.Outbox.standing g.O.Outbox.puts c.args.outbox.now in
    let now_out = outgoing g.O.Outbox.standing g.O.Outbox.puts c.stands.new.outbox in
    let same = as_read c.stands.result e c.stands.new.self c.stands.ensures.reread.store c.stands.ensures.reread.rest (λ disk. read_well c.in_ok-stands.field-0 EngineError.Disk (sym c.in_ok-stands.was ∙ disk)) in
    record {
      goes_on = λ other works unmoved opened first start time within run.
          ended_runs c.args.done.session c.stands.new.self c.give_back.new.self c.give_back.ensures.ended D.moment D.images c.stands.new.disk now_left opened first start time now_out
          (still_runs D.tells D.held D.moment D.images c.args.disk.now c.stands.new.disk c.stands.ensures.reread.disk c.run_goes_on.ensures.spared e c.stands.new.self same opened first start time time (omega arith)
          left now_left out now_out c.stands.ensures.reread.inbox c.stands.ensures.reread.outbox run);
      stopped = λ error is. absurd cc;
    }

pub returns-then-not-branch-clause-leaves : goal.returns-then-not-branch-clause-leaves
returns-then-not-branch-clause-leaves g c =
    let D = g.D.Disk in
    let e : EngineState = c.args.self.now in
    let new : EngineState = c.give_back.new.self in
    let left = g.I.Inbox.left c.args.inbox.now in
    let now_left = g.I.Inbox.left c.stands.new.inbox in
    let same = as_read c.stands.result e c.stands.new.self c.stands.ensures.reread.store c.stands.ensures.reread.rest (λ disk. read_well c.in_ok-stands.field-0 EngineError.Disk (sym c.in_ok-stands.was ∙ disk)) in
    let ended = subst (λ (x : EngineState). SessionHasEnded c.args.done.session x new) same c.give_back.ensures.ended in
    ended_leaves c.args.done.session e new ended D.moment D.images c.stands.new.disk now_left D.tells D.held g.I.Inbox.tells
    (still_goes_on D.tells D.held D.moment D.images c.args.disk.now c.stands.new.disk c.stands.ensures.reread.disk e e refl g.I.Inbox.tells left now_left c.stands.ensures.reread.inbox c.requires.may) c.give_back.ensures.ready

pub returns-then-not-branch-clause-alone : goal.returns-then-not-branch-clause-alone
returns-then-not-branch-clause-alone g c =
    let D = g.D.Disk in
    let e : EngineState = c.args.self.now in
    let new : EngineState = c.give_back.new.self in
    let same = as_read c.stands.result e c.stands.new.self c.stands.ensures.reread.store c.stands.ensures.reread.rest (λ disk. read_well c.in_ok-stands.field-0 EngineError.Disk (sym c.in_ok-stands.was ∙ disk)) in
    let ended = subst (λ (x : EngineState). SessionHasEnded c.args.done.session x new) same c.give_back.ensures.ended in
    record {
      same = ended_same_run c.args.done.session e new ended;
      log = ap (λ (x : EngineState). x.store.log.number) ended.rest;
      next_session = ap (λ (x : EngineState). x.next_session) ended.rest;
      alone = reads_only D.moment D.images e.store.log.number D.held c.args.disk.now c.stands.new.disk c.stands.ensures.reread.disk;
    }

pub enter-requires-clause-may : goal.enter-requires-clause-may
enter-requires-clause-may g c κs within =
    let D = g.D.Disk in
    let e : EngineState = c.args.self.now in
    let same = as_read c.stands.result e c.stands.new.self c.stands.ensures.reread.store c.stands.ensures.reread.rest (λ disk. read_well c.in_ok-stands.field-0 EngineError.Disk (sym c.in_ok-stands.was ∙ disk)) in
    still_goes_on D.tells D.held D.moment D.images c.args.disk.now c.stands.new.disk c.stands.ensures.reread.disk e c.stands.new.self same g.I.Inbox.tells (g.I.Inbox.left c.args.inbox.now) (g.I.Inbox.left c.stands.new.inbox)
    c.stands.ensures.reread.inbox c.requires.may

pub enter-requires-clause-stands : goal.enter-requires-clause-stands
enter-requires-clause-stands g c κs within =
    let D = g.D.Disk in
    let e : EngineState = c.args.self.now in
    let left = g.I.Inbox.left c.args.inbox.now in
    let out = outgoing g.O.Outbox.standing g.O.Outbox.puts c.args.outbox.now in
    let was = c.in_ok-stands.was in
    let there = c.in_ok-stands.is in
    let so : c.stands.result ≡ Ok true = cc in
    let same = as_read c.stands.result e c.stands.new.self c.stands.ensures.reread.store c.stands.ensures.reread.rest (λ disk. read_well true EngineError.Disk (sym so ∙ disk)) in
    still_stands D.tells D.held D.moment D.images c.args.disk.now c.stands.new.disk c.stands.ensures.reread.disk e c.stands.new.self same
    g.I.Inbox.tells g.O.Outbox.tells left (g.I.Inbox.left c.stands.new.inbox) out (outgoing g.O.Outbox.standing g.O.Outbox.puts c.stands.new.outbox)
    c.stands.ensures.reread.inbox c.stands.ensures.reread.outbox c.args.done (c.stands.ensures.so so)

pub returns-in_err-moment-clause-entered : goal.returns-in_err-moment-clause-entered
returns-in_err-moment-clause-entered g c =
    let p = err_from_is_err_and c.from_residual-in_err-moment.result c.from_residual-in_err-moment.ensures.1 in
    record {
      journal = search rules;
      inbox = search rules;
      outbox = search rules;
      follow = follows_behind c.enter.result c.from_residual-in_err-moment.result _ _ _ _ _ _ _ _ _ _ _ _ (λ put. p.1 ∙ ap Err (p.2 ∙ same_error c.in_err-moment.field-0.0 EngineError.Put (sym c.in_err-moment.was ∙ put)))
          (ap (λ (x : EngineState). x.journal) c.stands.ensures.reread.rest) c.stands.ensures.reread.inbox c.stands.ensures.reread.outbox c.enter.ensures.entered.follow;
    }

pub returns-in_err-moment-clause-run : goal.returns-in_err-moment-clause-run
returns-in_err-moment-clause-run g c telling in_telling out_telling =
    let D = g.D.Disk in
    let e : EngineState = c.args.self.now in
    let left = g.I.Inbox.left c.args.inbox.now in
    let out = outgoing g.O.Outbox.standing g.O.Outbox.puts c.args.outbox.now in
    let p = err_from_is_err_and c.from_residual-in_err-moment.result c.from_residual-in_err-moment.ensures.1 in
    let same = as_read c.stands.result e c.stands.new.self c.stands.ensures.reread.store c.stands.ensures.reread.rest (λ disk. read_well c.in_ok-stands.field-0 EngineError.Disk (sym c.in_ok-stands.was ∙ disk)) in
    let was = c.in_ok-stands.was in
    let there = c.in_ok-stands.is in
    let so : c.stands.result ≡ Ok true = cc in
    record {
      goes_on = λ other works unmoved opened first start time within run.
          let told : (a : EngineError) → IsErrOf c.enter.result a → IsErrOf c.from_residual-in_err-moment.result a = λ a is. p.1 ∙ ap Err (p.2 ∙ same_error c.in_err-moment.field-0.0 a (sym c.in_err-moment.was ∙ is)) in
          (c.enter.ensures.run telling in_telling out_telling).goes_on (λ disk. other (told EngineError.Disk disk)) works (λ inbox. unmoved (told EngineError.Inbox inbox) ∙ sym (ap (λ (x : EngineState). x.journal) same)) opened first start time (within_at D.tells D.held D.moment D.images e c.args.disk.now c.requires.may.ready g.I.Inbox.tells g.O.Outbox.tells left out c.args.done (c.stands.ensures.so so) start.time time within)
          (still_runs D.tells D.held D.moment D.images c.args.disk.now c.stands.new.disk c.stands.ensures.reread.disk c.run_goes_on.ensures.spared e c.stands.new.self same opened first start time time (omega arith)
          left (g.I.Inbox.left c.stands.new.inbox) out (outgoing g.O.Outbox.standing g.O.Outbox.puts c.stands.new.outbox) c.stands.ensures.reread.inbox c.stands.ensures.reread.outbox run);
      stopped = λ error is opened first start time within run.
          let told : c.in_err-moment.field-0.0 ≡ error = cc (p.1, p.2, is) in
          (c.enter.ensures.run telling in_telling out_telling).stopped error (c.in_err-moment.was ∙ ap Err told) opened first start time (within_at D.tells D.held D.moment D.images e c.args.disk.now c.requires.may.ready g.I.Inbox.tells g.O.Outbox.tells left out c.args.done (c.stands.ensures.so so) start.time time within)
          (still_runs D.tells D.held D.moment D.images c.args.disk.now c.stands.new.disk c.stands.ensures.reread.disk c.run_goes_on.ensures.spared e c.stands.new.self same opened first start time time (omega arith)
          left (g.I.Inbox.left c.stands.new.inbox) out (outgoing g.O.Outbox.standing g.O.Outbox.puts c.stands.new.outbox) c.stands.ensures.reread.inbox c.stands.ensures.reread.outbox run);
    }

pub returns-clause-entered : goal.returns-clause-entered
returns-clause-entered g c = record {
  journal = search rules;
  inbox = search rules;
  outbox = search rules;
  follow = follows_behind c.enter.result _ _ _ _ _ _ _ _ _ _ _ _ _ (λ put. absurd (read_well c.in_ok-moment.moment EngineError.Put (sym c.in_ok-moment.was ∙ put))) (ap (λ (x : EngineState). x.journal) c.stands.ensures.reread.rest)
      c.stands.ensures.reread.inbox c.stands.ensures.reread.outbox c.enter.ensures.entered.follow;
}

pub returns-clause-run : goal.returns-clause-run
returns-clause-run g c telling in_telling out_telling =
    let D = g.D.Disk in
    let e : EngineState = c.args.self.now in
    let left = g.I.Inbox.left c.args.inbox.now in
    let out = outgoing g.O.Outbox.standing g.O.Outbox.puts c.args.outbox.now in
    let same = as_read c.stands.result e c.stands.new.self c.stands.ensures.reread.store c.stands.ensures.reread.rest (λ disk. read_well c.in_ok-stands.field-0 EngineError.Disk (sym c.in_ok-stands.was ∙ disk)) in
    let was = c.in_ok-stands.was in
    let there = c.in_ok-stands.is in
    let so : c.stands.result ≡ Ok true = cc in
    record {
      goes_on = λ other works unmoved opened first start time within run.
          (c.enter.ensures.run telling in_telling out_telling).goes_on (λ disk. read_well c.in_ok-moment.moment EngineError.Disk (sym c.in_ok-moment.was ∙ disk)) works (λ inbox. read_well c.in_ok-moment.moment EngineError.Inbox (sym c.in_ok-moment.was ∙ inbox)) opened first start time (within_at D.tells D.held D.moment D.images e c.args.disk.now c.requires.may.ready g.I.Inbox.tells g.O.Outbox.tells left out c.args.done (c.stands.ensures.so so) start.time time within)
          (still_runs D.tells D.held D.moment D.images c.args.disk.now c.stands.new.disk c.stands.ensures.reread.disk c.run_goes_on.ensures.spared e c.stands.new.self same opened first start time time (omega arith)
          left (g.I.Inbox.left c.stands.new.inbox) out (outgoing g.O.Outbox.standing g.O.Outbox.puts c.stands.new.outbox) c.stands.ensures.reread.inbox c.stands.ensures.reread.outbox run);
      stopped = λ error is. absurd cc;
    }
