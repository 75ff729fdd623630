use Rattle.std.proofs.Common.{◌≤◌, refl, ◌∙◌, ap, subst, arith, rules}
use Rattle.std.specs.Prelude.{None, Some}
use Rattle.std.proofs.lemmas.Result.{err_from_is_err_and}
use Rattle.engine_choice.specs.declared.choice.Ending.{Ending}
use Rattle.engine_choice.specs.declared.choice.Ending.TheVariants.{Blocked, Quiet}
use Rattle.run_law.proofs.Writing.{later_log, writes_on}
use Rattle.engine_steps.specs.Engine.{EngineState}
use Rattle.flow_scheduler.specs.Driving.{StopsInTurn}
use Rattle.engine_steps.specs.declared.error.EngineError.{EngineError}
use Rattle.engine_steps.proofs.Goes.{stops_unmoved}
use Rattle.engine_steps.proofs.RunsOn.{spared_by_none}
use Rattle.flow_scheduler.proofs.Ending.{ends_blocked, ends_quiet, rests, went_on}
use Rattle.flow_scheduler.proofs.Turning.{same_run_on, stopped_at}
use Rattle.flow_scheduler.proofs.driving.drive.Goals.{in-None, in-Some-Rest}
use Rattle.flow_scheduler.proofs.Growing.{made_on}
use Rattle.flow_scheduler.proofs.InTurn.{none_stopped}
use Rattle.machine_model.specs.Acknowledged.{steps}
use Rattle.run_law.specs.Puts.{outgoing}
use Rattle.flow_scheduler.proofs.driving.drive.Goals as goal

pub returns-in_err-turn-clause-run : goal.returns-in_err-turn-clause-run
returns-in_err-turn-clause-run g c telling in_telling out_telling opened first start time le run =
    let D = g.D.Disk in
    let p = err_from_is_err_and c.from_residual.result c.from_residual.ensures.1 in
    let on = c.loop-turn.invariant.runs telling in_telling out_telling opened first start time le run in
    stopped_at c.from_residual.result _ _ c.in_err-turn.field-0.0 (cc (p.1, p.2))
    (subst (λ t. StopsInTurn c.in_err-turn.field-0.0 D.tells D.held D.moment D.images c.turn.new.engine opened first start t c.turn.new.disk (g.I.Inbox.left c.turn.new.inbox) (outgoing g.O.Outbox.standing g.O.Outbox.puts c.turn.new.outbox)) c.now-moment.ensures.moment
    (c.in_err-turn.ensures.run telling in_telling out_telling opened first start on.0 (omega (arith, on.1, c.now-moment.ensures.later, c.now-moment.ensures.moment)) on.2))

pub returns-in_err-turn-clause-leaves : goal.returns-in_err-turn-clause-leaves
returns-in_err-turn-clause-leaves g c =
    let D = g.D.Disk in
    let inv = c.loop-turn.invariant in
    record {
      may = search rules;
      usable = c.turn.ensures.leaves.usable;
      failed = search rules;
      works = search rules;
      known = search rules;
      same = same_run_on c.args.engine.now c.loop-turn.engine c.turn.new.engine inv.same c.turn.ensures.leaves.same;
      alone = writes_on D.moment D.images c.args.engine.now.store.log.number c.loop-turn.engine.store.log.number c.args.disk.now c.loop-turn.disk c.turn.new.disk inv.log inv.alone c.turn.ensures.leaves.alone;
      why = search rules;
    }

pub loop-turn-preserved : goal.loop-turn-preserved
loop-turn-preserved g c =
    let D = g.D.Disk in
    let inv = c.loop-turn.invariant in
    let behind : c.now-moment.result ≤ g.C.Clock.time c.match-branch-2.clock = elim c.match-branch-2.branch [
      | in-None w ↦ let is = ap g.C.Clock.time w.clock-is in omega (arith, is, c.now-moment.ensures.moment)
      | in-Some-Rest w ↦ let is = ap g.C.Clock.time w.clock-is in omega (arith, is, w.wait.ensures.later, c.now-moment.ensures.moment)
    ] in
    record {
      may = c.in_ok-turn.ensures.leaves.may;
      same = same_run_on c.args.engine.now c.loop-turn.engine c.turn.new.engine inv.same c.turn.ensures.leaves.same;
      log = later_log c.args.engine.now.store.log.number c.loop-turn.engine.store.log.number c.turn.new.engine.store.log.number inv.log c.in_ok-turn.ensures.log;
      alone = writes_on D.moment D.images c.args.engine.now.store.log.number c.loop-turn.engine.store.log.number c.args.disk.now c.loop-turn.disk c.turn.new.disk inv.log inv.alone c.turn.ensures.leaves.alone;
      later = omega (arith, inv.later, c.now-moment.ensures.later, c.now-moment.ensures.moment, behind);
      runs = λ telling in_telling out_telling opened first start time le run.
          let on = inv.runs telling in_telling out_telling opened first start time le run in
          let turned = c.in_ok-turn.ensures.run telling in_telling out_telling opened first start on.0 (omega (arith, on.1, c.now-moment.ensures.later, c.now-moment.ensures.moment)) on.2 in (
            c.now-moment.result,
            behind,
            elim c.match-branch-2.branch [
              | in-None w ↦ went_on D.moment D.images c.turn.new.engine opened first c.turn.new.disk start (g.I.Inbox.left c.turn.new.inbox) (outgoing g.O.Outbox.standing g.O.Outbox.puts c.turn.new.outbox) c.now-moment.result c.in_ok-turn.field-0 turned w.in-None.is
              | in-Some-Rest w ↦ rests D.moment D.images c.turn.new.engine opened first c.turn.new.disk start (g.I.Inbox.left c.turn.new.inbox) (outgoing g.O.Outbox.standing g.O.Outbox.puts c.turn.new.outbox) c.now-moment.result c.in_ok-turn.field-0 turned
                  w.in-Some-Rest.until (w.in-Some-Rest.is ∙ ap (λ (a : Ending). Some a) w.in-Some-Rest.field-0-is)
            ],
          );
      moments = λ all. made_on g.C.Clock.given c.now-moment.result c.loop-turn.engine.journal c.turn.new.engine.journal c.turn.ensures.grows c.now-moment.ensures.answer (inv.moments all);
      disk_faults = omega (arith, inv.disk_faults, c.turn.ensures.cause.disk.never_falls);
      inbox_faults = omega (arith, inv.inbox_faults, c.turn.ensures.cause.inbox.never_falls);
      outbox_faults = omega (arith, inv.outbox_faults, c.turn.ensures.cause.outbox.never_falls);
    }

pub returns-clause-run : goal.returns-clause-run
returns-clause-run g c telling in_telling out_telling opened first start time le run =
    let D = g.D.Disk in
    let e : EngineState = c.loop-turn.engine in
    let left = g.I.Inbox.left c.loop-turn.inbox in
    let out = outgoing g.O.Outbox.standing g.O.Outbox.puts c.loop-turn.outbox in
    let on = c.loop-turn.invariant.runs telling in_telling out_telling opened first start time le run in
    let time_now = g.C.Clock.time c.loop-turn.clock in
    record {
      next = None;
      stops = stops_unmoved D.tells D.held D.moment D.images e e opened first start on.0 c.loop-turn.disk c.loop-turn.disk left out on.2.run refl refl
          c.faults_end_a_run.ensures.between refl (spared_by_none D.tells D.held D.moment D.images e.flow e.store.lot on.2.run.reached c.loop-turn.disk on.2.run.to.run.holds)
          EngineError.Memory (λ limit limited. cc) time_now on.1 left out refl refl None;
      turns = none_stopped e.flow start.time time_now opened e.journal (c.turns_go_on.ensures.later e.flow start.time on.0 time_now opened (steps e.journal) on.2.turns on.1);
    }

pub returns-in-Some-Blocked-clause-run : goal.returns-in-Some-Blocked-clause-run
returns-in-Some-Blocked-clause-run g c telling in_telling out_telling opened first start time le run =
    let D = g.D.Disk in
    let on = c.loop-turn.invariant.runs telling in_telling out_telling opened first start time le run in
    ends_blocked D.moment D.images c.turn.new.engine opened first c.turn.new.disk start (g.I.Inbox.left c.turn.new.inbox) (outgoing g.O.Outbox.standing g.O.Outbox.puts c.turn.new.outbox) c.now-moment.result c.in_ok-turn.field-0
    (c.in_ok-turn.ensures.run telling in_telling out_telling opened first start on.0 (omega (arith, on.1, c.now-moment.ensures.later, c.now-moment.ensures.moment)) on.2)
    c.in-Some-Blocked.connection (g.C.Clock.time c.now-moment.new.self) (c.in-Some-Blocked.is ∙ ap (λ (a : Ending). Some a) c.in-Some-Blocked.field-0-is) c.now-moment.ensures.moment

pub returns-in-Some-Blocked-clause-short : goal.returns-in-Some-Blocked-clause-short
returns-in-Some-Blocked-clause-short g c = c.in_ok-turn.ensures.short (Blocked c.in-Some-Blocked.connection) (c.in-Some-Blocked.is ∙ ap (λ (a : Ending). Some a) c.in-Some-Blocked.field-0-is)

pub returns-in-Some-Blocked-clause-leaves : goal.returns-in-Some-Blocked-clause-leaves
returns-in-Some-Blocked-clause-leaves g c =
    let D = g.D.Disk in
    let inv = c.loop-turn.invariant in
    record {
      may = c.in_ok-turn.ensures.leaves.may;
      usable = c.turn.ensures.leaves.usable;
      failed = search rules;
      works = search rules;
      known = search rules;
      same = same_run_on c.args.engine.now c.loop-turn.engine c.turn.new.engine inv.same c.turn.ensures.leaves.same;
      alone = writes_on D.moment D.images c.args.engine.now.store.log.number c.loop-turn.engine.store.log.number c.args.disk.now c.loop-turn.disk c.turn.new.disk inv.log inv.alone c.turn.ensures.leaves.alone;
      why = search rules;
    }

pub returns-in-Some-Blocked-clause-clock : goal.returns-in-Some-Blocked-clause-clock
returns-in-Some-Blocked-clause-clock g c = record {
  later = omega (arith, c.loop-turn.invariant.later, c.now-moment.ensures.later);
  moments = λ all. made_on g.C.Clock.given c.now-moment.result c.loop-turn.engine.journal c.turn.new.engine.journal c.turn.ensures.grows c.now-moment.ensures.answer (c.loop-turn.invariant.moments all);
  given = subst g.C.Clock.given c.now-moment.ensures.moment c.now-moment.ensures.answer;
}

pub returns-in-Some-Quiet-clause-run : goal.returns-in-Some-Quiet-clause-run
returns-in-Some-Quiet-clause-run g c telling in_telling out_telling opened first start time le run =
    let D = g.D.Disk in
    let on = c.loop-turn.invariant.runs telling in_telling out_telling opened first start time le run in
    ends_quiet D.moment D.images c.turn.new.engine opened first c.turn.new.disk start (g.I.Inbox.left c.turn.new.inbox) (outgoing g.O.Outbox.standing g.O.Outbox.puts c.turn.new.outbox) c.now-moment.result c.in_ok-turn.field-0
    (c.in_ok-turn.ensures.run telling in_telling out_telling opened first start on.0 (omega (arith, on.1, c.now-moment.ensures.later, c.now-moment.ensures.moment)) on.2)
    (g.C.Clock.time c.now-moment.new.self) (c.in-Some-Quiet.is ∙ ap (λ (a : Ending). Some a) c.in-Some-Quiet.field-0-is) c.now-moment.ensures.moment

pub returns-in-Some-Quiet-clause-short : goal.returns-in-Some-Quiet-clause-short
returns-in-Some-Quiet-clause-short g c = c.in_ok-turn.ensures.short Quiet (c.in-Some-Quiet.is ∙ ap (λ (a : Ending). Some a) c.in-Some-Quiet.field-0-is)

pub returns-in-Some-Quiet-clause-leaves : goal.returns-in-Some-Quiet-clause-leaves
returns-in-Some-Quiet-clause-leaves g c =
    let D = g.D.Disk in
    let inv = c.loop-turn.invariant in
    record {
      may = c.in_ok-turn.ensures.leaves.may;
      usable = c.turn.ensures.leaves.usable;
      failed = search rules;
      works = search rules;
      known = search rules;
      same = same_run_on c.args.engine.now c.loop-turn.engine c.turn.new.engine inv.same c.turn.ensures.leaves.same;
      alone = writes_on D.moment D.images c.args.engine.now.store.log.number c.loop-turn.engine.store.log.number c.args.disk.now c.loop-turn.disk c.turn.new.disk inv.log inv.alone c.turn.ensures.leaves.alone;
      why = search rules;
    }

pub returns-in-Some-Quiet-clause-clock : goal.returns-in-Some-Quiet-clause-clock
returns-in-Some-Quiet-clause-clock g c = record {
  later = omega (arith, c.loop-turn.invariant.later, c.now-moment.ensures.later);
  moments = λ all. made_on g.C.Clock.given c.now-moment.result c.loop-turn.engine.journal c.turn.new.engine.journal c.turn.ensures.grows c.now-moment.ensures.answer (c.loop-turn.invariant.moments all);
  given = subst g.C.Clock.given c.now-moment.ensures.moment c.now-moment.ensures.answer;
}

pub returns-in_err-turn-clause-clock : goal.returns-in_err-turn-clause-clock
returns-in_err-turn-clause-clock g c = record {
  later = omega (arith, c.loop-turn.invariant.later, c.now-moment.ensures.later);
  moments = λ all. made_on g.C.Clock.given c.now-moment.result c.loop-turn.engine.journal c.turn.new.engine.journal c.turn.ensures.grows c.now-moment.ensures.answer (c.loop-turn.invariant.moments all);
  given = search rules;
}
