use Rattle.std.proofs.Common.{◌≡◌, ◌∙◌, ap, false, true, refl, rules, sym, subst}
use Rattle.std.specs.Prelude.{Err, None, Ok, Some}
use Rattle.std.proofs.lemmas.Result.{err_from_is_err_and}
use Rattle.run_law.specs.Work.{IsShortOn}
use Rattle.engine_steps.specs.Engine.{EngineState}
use Rattle.engine_steps.specs.Running.{IsRunning}
use Rattle.engine_steps.specs.TendingParts.{RunsOnSpared}
use Rattle.engine_steps.specs.declared.tending.Tended.{Tended}
use Rattle.engine_steps.proofs.RunsBehind.{spared_behind, spared_in_err, spared_in_ok, tended_behind, tended_in_err, tended_in_ok}
use Rattle.engine_steps.proofs.RunsOn.{runs_tended}
use Rattle.engine_steps.proofs.engine.Engine.tend_first.Goals as goal

pub returns-in_err-expire_due-clause-run : goal.returns-in_err-expire_due-clause-run
returns-in_err-expire_due-clause-run g c telling =
    let p = err_from_is_err_and c.from_residual.result c.from_residual.ensures.1 in
    tended_in_err c.in_err-expire_due.field-0.0 c.in_err-expire_due.was (p.1 ∙ ap Err p.2) true Tended.Expired (c.expire_due.ensures.run telling)

pub returns-then-branch-clause-run : goal.returns-then-branch-clause-run
returns-then-branch-clause-run g c telling =
    let was = c.in_ok-expire_due.was in
    let there = c.in_ok-expire_due.is in
    let done : c.expire_due.result ≡ Ok true = cc in
    tended_in_ok true Tended.Expired done refl (c.expire_due.ensures.run telling)

pub returns-in_err-checkpoint_due-clause-run : goal.returns-in_err-checkpoint_due-clause-run
returns-in_err-checkpoint_due-clause-run g c telling =
    let was = c.in_ok-expire_due.was in
    let there = c.in_ok-expire_due.is in
    let fresh : c.expire_due.result ≡ Ok false = cc in
    let p = err_from_is_err_and c.from_residual-in_err-checkpoint_due.result c.from_residual-in_err-checkpoint_due.ensures.1 in
    tended_behind false fresh true Tended.Expired (λ is. cc) (c.expire_due.ensures.run telling)
    (spared_in_err c.in_err-checkpoint_due.field-0.0 c.in_err-checkpoint_due.was (p.1 ∙ ap Err p.2) c.checkpoint_due.ensures.run)

pub returns-then-branch-2-clause-run : goal.returns-then-branch-2-clause-run
returns-then-branch-2-clause-run g c telling =
    let was = c.in_ok-expire_due.was in
    let there = c.in_ok-expire_due.is in
    let fresh : c.expire_due.result ≡ Ok false = cc in
    tended_behind false fresh true Tended.Expired (λ is. cc) (c.expire_due.ensures.run telling)
    (spared_in_ok c.in_ok-checkpoint_due.field-0 Tended.Checkpointed c.in_ok-checkpoint_due.was refl c.checkpoint_due.ensures.run)

pub returns-in_err-reclaimed-clause-run : goal.returns-in_err-reclaimed-clause-run
returns-in_err-reclaimed-clause-run g c telling =
    let was = c.in_ok-expire_due.was in
    let there = c.in_ok-expire_due.is in
    let fresh : c.expire_due.result ≡ Ok false = cc in
    let p = err_from_is_err_and c.from_residual-in_err-reclaimed.result c.from_residual-in_err-reclaimed.ensures.1 in
    tended_behind false fresh true Tended.Expired (λ is. cc) (c.expire_due.ensures.run telling)
    (spared_behind c.in_ok-checkpoint_due.field-0 c.in_ok-checkpoint_due.was c.checkpoint_due.ensures.run
    (spared_in_err c.in_err-reclaimed.field-0.0 c.in_err-reclaimed.was (p.1 ∙ ap Err p.2) c.reclaim_due.ensures.run))

pub returns-in-Some-clause-run : goal.returns-in-Some-clause-run
returns-in-Some-clause-run g c telling =
    let was = c.in_ok-expire_due.was in
    let there = c.in_ok-expire_due.is in
    let fresh : c.expire_due.result ≡ Ok false = cc in
    tended_behind false fresh true Tended.Expired (λ is. cc) (c.expire_due.ensures.run telling)
    (spared_behind c.in_ok-checkpoint_due.field-0 c.in_ok-checkpoint_due.was c.checkpoint_due.ensures.run
    (spared_in_ok c.in_ok-reclaimed.field-0 (Tended.Reclaimed c.in-Some.reclaimed) c.in_ok-reclaimed.was refl c.reclaim_due.ensures.run))

pub returns-clause-tended : goal.returns-clause-tended
returns-clause-tended g c =
    let D = g.D.Disk in
    let was = c.in_ok-expire_due.was in
    let there = c.in_ok-expire_due.is in
    let fresh : c.expire_due.result ≡ Ok false = cc in
    let none = c.expire_due.ensures.lets_go.none fresh in
    let was_too = c.in_ok-checkpoint_due.was in
    let there_too = c.in_ok-checkpoint_due.is in
    let idle : c.checkpoint_due.result ≡ Ok false = cc in
    let none_too = c.checkpoint_due.ensures.begins.none idle in
    let was_last = c.in_ok-reclaimed.was in
    let there_last = c.in_ok-reclaimed.is in
    let clean : c.reclaim_due.result ≡ Ok None = cc in
    let none_last = c.reclaim_due.ensures.reclaims.none clean in
    record {
      due = search rules;
      wanted = search rules;
      done = search rules;
      refused = λ error is other. absurd cc;
      nothing = λ is. (
        none_last.1 ∙ none_too.1 ∙ none.1,
        subst (λ (e : EngineState). IsShortOn D.moment D.images e.checkpoint c.args.disk.now) none.0
            (subst (λ (d : _). IsShortOn D.moment D.images c.expire_due.new.self.checkpoint d) none.1 (c.checkpoint_due.ensures.begins.short idle)),
      );
    }

pub returns-clause-run : goal.returns-clause-run
returns-clause-run g c telling =
    let D = g.D.Disk in
    let was = c.in_ok-expire_due.was in
    let there = c.in_ok-expire_due.is in
    let fresh : c.expire_due.result ≡ Ok false = cc in
    let i = c.self.inside in
    let e : EngineState = record { flow = i.flow.now; store = i.store; queues = i.queues; listing = i.listing; last = i.last; journal = i.journal.items; most = i.most; checkpoint = i.checkpoint; since_reclaim = i.since_reclaim; failed = i.has_failed; tended = i.tended; out = i.out.items; next_session = i.next_session } in
    let noted : RunsOnSpared (Ok Tended.Nothing) D.tells D.held D.moment D.images c.reclaim_due.new.self (record e { tended = Some c.args.moment }) c.reclaim_due.new.disk c.reclaim_due.new.disk = record {
      goes_on = λ well opened first start time left out run. runs_tended D.tells D.held D.moment D.images e (Some c.args.moment) opened first c.reclaim_due.new.disk start time left out
          (subst (λ (u : EngineState). IsRunning D.moment D.images u opened first start time c.reclaim_due.new.disk left out) (sym c.self.view_is) run);
      stopped = λ error fails opened first start time left out run. absurd cc;
    } in
    tended_behind false fresh true Tended.Expired (λ is. cc) (c.expire_due.ensures.run telling)
    (spared_behind c.in_ok-checkpoint_due.field-0 c.in_ok-checkpoint_due.was c.checkpoint_due.ensures.run
    (spared_behind c.in_ok-reclaimed.field-0 c.in_ok-reclaimed.was c.reclaim_due.ensures.run noted))
