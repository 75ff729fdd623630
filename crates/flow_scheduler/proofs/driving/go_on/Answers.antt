use Rattle.std.proofs.Common.{◌≡◌, inl, inr, ℕ, length, refl, sym, ◌∙◌, ap, subst, arith}
use Rattle.std.specs.Prelude.{Err, None, Ok, Option, Some}
use Rattle.std.proofs.lemmas.Bool.{true≢false}
use Rattle.std.proofs.lemmas.Result.{err_from_is_err_and}
use Rattle.kept_state.specs.declared.limit.Limit.{Limit as TheLimit}
use Rattle.machine_model.specs.Acknowledged.{steps}
use Rattle.engine_choice.specs.declared.choice.Ending.TheVariants.{Blocked, Quiet}
use Rattle.engine_steps.specs.Checkout.{ChecksOut, choice_in, ending_in}
use Rattle.engine_steps.specs.Engine.{EngineState}
use Rattle.engine_steps.specs.Running.{IsLimited}
use Rattle.engine_steps.specs.declared.checkout.Checkout.{Checkout}
use Rattle.engine_steps.specs.declared.checkout.Checkout.TheVariants as next
use Rattle.engine_steps.specs.declared.error.EngineError.{EngineError}
use Rattle.engine_steps.proofs.Choosing.{goes_on}
use Rattle.engine_steps.proofs.Ending.{comes_next, ends_as, full_as, none_expired}
use Rattle.flow_scheduler.specs.Driving.{IsTurned, RunsInTurn, StopsInTurn}
use Rattle.flow_scheduler.proofs.CheckedOut.{leaves_by_error, leaves_checked_out, leaves_unmoved, leaves_without_memory, may_checked_out, memory_alone, runs_checked_out}
use Rattle.flow_scheduler.proofs.Ending.{turned_at_end}
use Rattle.engine_steps.proofs.Goes.{stops_unmoved}
use Rattle.engine_steps.proofs.RunsOn.{runs_idle, spared_by_none}
use Rattle.flow_scheduler.proofs.InTurn.{none_stopped}
use Rattle.flow_scheduler.proofs.Turning.{limited, no_limit, stopped_at}
use Rattle.run_law.specs.Puts.{outgoing}
use Rattle.run_law.specs.Turns.{ComesNext}
use Rattle.flow_scheduler.proofs.driving.go_on.Goals as goal

pub checkout-requires : goal.checkout-requires
checkout-requires g c = record { ready = λ works. c.requires.may.may.ready.memory }

pub returns-in_err-checkout-clause-run : goal.returns-in_err-checkout-clause-run
returns-in_err-checkout-clause-run g c telling in_telling out_telling opened first start time le run =
    let D = g.D.Disk in
    let e : EngineState = c.args.engine.now in
    let f : EngineState = c.checkout.new.self in
    let disk = c.args.disk.now in
    let left = g.I.Inbox.left c.args.inbox.now in
    let out = outgoing g.O.Outbox.standing g.O.Outbox.puts c.args.outbox.now in
    let p = err_from_is_err_and c.from_residual.result c.from_residual.ensures.1 in
    let error = c.in_err-checkout.field-0.0 in
    let same : f ≡ e = c.in_err-checkout.ensures.leaves in
    stopped_at c.from_residual.result _ _ error (cc (p.1, p.2))
    (subst (λ (x : EngineState). StopsInTurn error D.tells D.held D.moment D.images x opened first start c.args.moment disk left out) (sym same) (record {
      next = None;
      stops = stops_unmoved D.tells D.held D.moment D.images e e opened first start time disk disk left out run.run refl refl c.faults_end_a_run.ensures.between refl
          (spared_by_none D.tells D.held D.moment D.images e.flow e.store.lot run.run.reached disk run.run.to.run.holds)
          error (no_limit error error refl c.in_err-checkout.ensures.kinds) c.args.moment le left out refl refl None;
      turns = none_stopped e.flow start.time c.args.moment opened e.journal (c.turns_go_on.ensures.later e.flow start.time time c.args.moment opened (steps e.journal) run.turns le);
    }))

pub returns-in_err-checkout-clause-leaves : goal.returns-in_err-checkout-clause-leaves
returns-in_err-checkout-clause-leaves g c =
    let D = g.D.Disk in
    let p = err_from_is_err_and c.from_residual.result c.from_residual.ensures.1 in
    let error = c.in_err-checkout.field-0.0 in
    let is : c.from_residual.result ≡ Err error = cc (p.1, p.2) in
    let memory = memory_alone error c.in_err-checkout.ensures.kinds (λ reopen. true≢false (sym (c.in_err-checkout.ensures.reopen.0 (ap Err reopen)) ∙ c.requires.may.may.works)) in
    leaves_without_memory c.from_residual.result D.tells D.held D.moment D.images g.I.Inbox.tells (g.I.Inbox.left c.args.inbox.now) c.args.engine.now c.checkout.new.self c.args.disk.now c.requires.may
    c.in_err-checkout.ensures.leaves (is ∙ ap Err memory)

pub returns-in_err-checkout-clause-grows : goal.returns-in_err-checkout-clause-grows
returns-in_err-checkout-clause-grows g c = inl (ap (λ (x : EngineState). x.journal) c.in_err-checkout.ensures.leaves)

pub returns-in_err-checkout-clause-log : goal.returns-in_err-checkout-clause-log
returns-in_err-checkout-clause-log g c = ap (λ (x : EngineState). x.store.log.number) c.in_err-checkout.ensures.leaves

pub run_session-requires-clause-may : goal.run_session-requires-clause-may
run_session-requires-clause-may g c κs within =
    let D = g.D.Disk in
    let moment = c.args.moment in
    let e : EngineState = c.args.engine.now in
    let f : EngineState = c.checkout.new.self in
    let out = subst (λ (n : Checkout). ChecksOut (Ok n) moment e f) c.in-Session.is c.in_ok-checkout.ensures.leaves in
    may_checked_out moment c.in-Session.session e f out D.tells D.held D.moment D.images g.I.Inbox.tells (g.I.Inbox.left c.args.inbox.now) c.args.disk.now c.requires.may c.checkout.ensures.ready

pub run_session-requires-clause-chosen : goal.run_session-requires-clause-chosen
run_session-requires-clause-chosen g c κs within = record {
  before = c.args.engine.now;
  none = c.requires.may.none;
  checked_out = subst (λ (n : Checkout). ChecksOut (Ok n) c.args.moment c.args.engine.now c.checkout.new.self) c.in-Session.is c.in_ok-checkout.ensures.leaves;
  shows = c.shows_its_state.ensures;
}

pub returns-in_err-run_session-in-Session-clause-run : goal.returns-in_err-run_session-in-Session-clause-run
returns-in_err-run_session-in-Session-clause-run g c telling in_telling out_telling opened first start time le run =
    let D = g.D.Disk in
    let moment = c.args.moment in
    let e : EngineState = c.args.engine.now in
    let f : EngineState = c.checkout.new.self in
    let out = subst (λ (n : Checkout). ChecksOut (Ok n) moment e f) c.in-Session.is c.in_ok-checkout.ensures.leaves in
    let p = err_from_is_err_and c.from_residual-in_err-run_session-in-Session.result c.from_residual-in_err-run_session-in-Session.ensures.1 in
    stopped_at c.from_residual-in_err-run_session-in-Session.result _ _ c.in_err-run_session-in-Session.field-0.0 (cc (p.1, p.2))
    (c.in_err-run_session-in-Session.ensures.run telling in_telling out_telling opened first start time le
    (runs_checked_out moment c.in-Session.session e f out D.moment D.images opened first start time c.args.disk.now (g.I.Inbox.left c.args.inbox.now) (outgoing g.O.Outbox.standing g.O.Outbox.puts c.args.outbox.now) run))

pub returns-in_ok-run_session-in-Session-clause-run : goal.returns-in_ok-run_session-in-Session-clause-run
returns-in_ok-run_session-in-Session-clause-run g c telling in_telling out_telling opened first start time le run =
    let D = g.D.Disk in
    let moment = c.args.moment in
    let e : EngineState = c.args.engine.now in
    let f : EngineState = c.checkout.new.self in
    let out = subst (λ (n : Checkout). ChecksOut (Ok n) moment e f) c.in-Session.is c.in_ok-checkout.ensures.leaves in
    c.in_ok-run_session-in-Session.ensures.run telling in_telling out_telling opened first start time le
    (runs_checked_out moment c.in-Session.session e f out D.moment D.images opened first start time c.args.disk.now (g.I.Inbox.left c.args.inbox.now) (outgoing g.O.Outbox.standing g.O.Outbox.puts c.args.outbox.now) run)

pub returns-in_err-run_session-in-Session-clause-leaves : goal.returns-in_err-run_session-in-Session-clause-leaves
returns-in_err-run_session-in-Session-clause-leaves g c =
    let D = g.D.Disk in
    let moment = c.args.moment in
    let e : EngineState = c.args.engine.now in
    let f : EngineState = c.checkout.new.self in
    let left = g.I.Inbox.left c.run_session.new.inbox in
    let out = subst (λ (n : Checkout). ChecksOut (Ok n) moment e f) c.in-Session.is c.in_ok-checkout.ensures.leaves in
    let p = err_from_is_err_and c.from_residual-in_err-run_session-in-Session.result c.from_residual-in_err-run_session-in-Session.ensures.1 in
    leaves_by_error c.run_session.result c.from_residual-in_err-run_session-in-Session.result c.in_err-run_session-in-Session.field-0.0 c.in_err-run_session-in-Session.was (cc (p.1, p.2)) D.tells D.held D.moment D.images g.I.Inbox.tells left e
    c.run_session.new.engine c.args.disk.now c.run_session.new.disk
    (leaves_checked_out moment c.in-Session.session e f out D.tells D.held D.moment D.images g.I.Inbox.tells left c.run_session.result c.run_session.new.engine c.args.disk.now c.run_session.new.disk c.run_session.ensures.leaves)

pub returns-in-Limit-clause-run : goal.returns-in-Limit-clause-run
returns-in-Limit-clause-run g c telling in_telling out_telling opened first start time le run =
    let D = g.D.Disk in
    let e : EngineState = c.args.engine.now in
    let disk = c.args.disk.now in
    let moment = c.args.moment in
    let left = g.I.Inbox.left c.args.inbox.now in
    let out = outgoing g.O.Outbox.standing g.O.Outbox.puts c.args.outbox.now in
    let laws = g.met.D.Disk g.world.𝓛 g.world.𝓜 g.world.𝓡 ((λ s x. x), (λ x. x), (λ x. x), λ x. x) in
    let shown = c.shows_its_state.ensures telling run.run.reached run.run.to.run.holds in
    let it = full_as (length e.journal) (length e.out) e.most e.next_session (choice_in e moment) (ending_in e moment) c.in-Limit.limit
    (comes_next e moment (next.Limit c.in-Limit.limit) c.requires.tended (sym c.in-Limit.is ∙ c.in_ok-checkout.ensures.next)) in
    let full : length e.journal ≡ e.most = omega (arith, it.3, c.requires.may.may.ready.memory.entries) in
    let step = goes_on c.choices_are_sessions.ensures c.choices_are_seen.ensures c.sessions_are_steps.ensures.steps e run.run.reached moment it.0 c.requires.may.none run.run.to.run.valid shown.seen shown.counts run.run.to.coming
    (none_expired e moment c.requires.tended) it.1 in
    let comes = subst (λ (last : Option ℕ). ComesNext e.flow last run.run.reached step.next) run.run.to.last step.comes in
    subst (λ (x : EngineState). StopsInTurn (EngineError.Limit c.in-Limit.limit) D.tells D.held D.moment D.images x opened first start moment disk left out)
    (sym (subst (λ (n : Checkout). ChecksOut (Ok n) moment e c.checkout.new.self) c.in-Limit.is c.in_ok-checkout.ensures.leaves)) (record {
      next = Some step.next;
      stops = subst (λ (l : TheLimit). IsLimited D.tells D.held D.moment D.images e l opened first start moment disk left out (Some step.next)) (sym it.2)
          (limited D.tells D.held D.moment D.images e opened first start time disk left out c.run_goes_on.ensures.spared moment le run.run full (laws.held_is_left disk telling) step);
      turns = record {
        made = c.turns_go_on.ensures.later e.flow start.time time moment opened (steps e.journal) run.turns le;
        stopped = c.turns_go_on.ensures.next e.flow start.time time moment opened run.run.reached (steps e.journal) step.next run.turns run.run.to.run.ran.replays (omega (arith, le, step.at)) (omega (arith, step.at)) comes;
      };
    })

pub returns-in-Limit-clause-leaves : goal.returns-in-Limit-clause-leaves
returns-in-Limit-clause-leaves g c =
    let D = g.D.Disk in
    let e : EngineState = c.args.engine.now in
    let moment = c.args.moment in
    let it = full_as (length e.journal) (length e.out) e.most e.next_session (choice_in e moment) (ending_in e moment) c.in-Limit.limit
    (comes_next e moment (next.Limit c.in-Limit.limit) c.requires.tended (sym c.in-Limit.is ∙ c.in_ok-checkout.ensures.next)) in
    leaves_unmoved (Err (EngineError.Limit c.in-Limit.limit)) D.tells D.held D.moment D.images g.I.Inbox.tells (g.I.Inbox.left c.args.inbox.now) e c.checkout.new.self c.args.disk.now c.requires.may
    (subst (λ (n : Checkout). ChecksOut (Ok n) moment e c.checkout.new.self) c.in-Limit.is c.in_ok-checkout.ensures.leaves) (λ is. absurd cc) (λ is. absurd cc) (record {
      limited = λ limit is. let same : c.in-Limit.limit ≡ limit = cc in inr (record { told = sym same ∙ it.2; full = it.3 }, c.requires.may.may.ready.work);
      damaged = λ damage is. absurd cc;
    })

pub returns-in-Rest-clause-run : goal.returns-in-Rest-clause-run
returns-in-Rest-clause-run g c telling in_telling out_telling opened first start time le run =
    let D = g.D.Disk in
    let e : EngineState = c.args.engine.now in
    let left = g.I.Inbox.left c.args.inbox.now in
    let out = outgoing g.O.Outbox.standing g.O.Outbox.puts c.args.outbox.now in
    subst (λ (x : EngineState). RunsInTurn D.moment D.images x opened first start c.args.moment c.args.disk.now left out)
    (sym (subst (λ (n : Checkout). ChecksOut (Ok n) c.args.moment e c.checkout.new.self) c.in-Rest.is c.in_ok-checkout.ensures.leaves)) (record {
      run = runs_idle D.tells D.held D.moment D.images e opened first c.args.disk.now start time c.args.moment le left out run.run c.run_goes_on.ensures.spared;
      turns = c.turns_go_on.ensures.later e.flow start.time time c.args.moment opened (steps e.journal) run.turns le;
    })

pub returns-in-Blocked-clause-run : goal.returns-in-Blocked-clause-run
returns-in-Blocked-clause-run g c telling in_telling out_telling opened first start time le run =
    let D = g.D.Disk in
    let e : EngineState = c.args.engine.now in
    let moment = c.args.moment in
    let left = g.I.Inbox.left c.args.inbox.now in
    let out = outgoing g.O.Outbox.standing g.O.Outbox.puts c.args.outbox.now in
    let it = ends_as (length e.journal) (length e.out) e.most e.next_session (choice_in e moment) (ending_in e moment) (Blocked c.in-Blocked.connection)
    (comes_next e moment (next.Blocked c.in-Blocked.connection) c.requires.tended (sym c.in-Blocked.is ∙ c.in_ok-checkout.ensures.next)) in
    let on = runs_idle D.tells D.held D.moment D.images e opened first c.args.disk.now start time moment le left out run.run c.run_goes_on.ensures.spared in
    subst (λ (x : EngineState). IsTurned (Some (Blocked c.in-Blocked.connection)) D.moment D.images x opened first start moment c.args.disk.now left out)
    (sym (subst (λ (n : Checkout). ChecksOut (Ok n) moment e c.checkout.new.self) c.in-Blocked.is c.in_ok-checkout.ensures.leaves))
    (turned_at_end c.ends_are_machine_ends.ensures D.moment D.images e opened first c.args.disk.now left out start moment on (c.turns_go_on.ensures.later e.flow start.time time moment opened (steps e.journal) run.turns le) c.requires.may.none
    (c.shows_its_state.ensures telling on.reached on.to.run.holds) c.requires.tended c.requires.may.may.ready.memory.sound (Blocked c.in-Blocked.connection) it.1 it.0)

pub returns-in-Quiet-clause-run : goal.returns-in-Quiet-clause-run
returns-in-Quiet-clause-run g c telling in_telling out_telling opened first start time le run =
    let D = g.D.Disk in
    let e : EngineState = c.args.engine.now in
    let moment = c.args.moment in
    let left = g.I.Inbox.left c.args.inbox.now in
    let out = outgoing g.O.Outbox.standing g.O.Outbox.puts c.args.outbox.now in
    let it = ends_as (length e.journal) (length e.out) e.most e.next_session (choice_in e moment) (ending_in e moment) Quiet
    (comes_next e moment next.Quiet c.requires.tended (sym c.in-Quiet.is ∙ c.in_ok-checkout.ensures.next)) in
    let on = runs_idle D.tells D.held D.moment D.images e opened first c.args.disk.now start time moment le left out run.run c.run_goes_on.ensures.spared in
    subst (λ (x : EngineState). IsTurned (Some Quiet) D.moment D.images x opened first start moment c.args.disk.now left out)
    (sym (subst (λ (n : Checkout). ChecksOut (Ok n) moment e c.checkout.new.self) c.in-Quiet.is c.in_ok-checkout.ensures.leaves))
    (turned_at_end c.ends_are_machine_ends.ensures D.moment D.images e opened first c.args.disk.now left out start moment on (c.turns_go_on.ensures.later e.flow start.time time moment opened (steps e.journal) run.turns le) c.requires.may.none
    (c.shows_its_state.ensures telling on.reached on.to.run.holds) c.requires.tended c.requires.may.may.ready.memory.sound Quiet it.1 it.0)

pub returns-in-Rest-clause-leaves : goal.returns-in-Rest-clause-leaves
returns-in-Rest-clause-leaves g c =
    let D = g.D.Disk in
    leaves_unmoved _ D.tells D.held D.moment D.images g.I.Inbox.tells (g.I.Inbox.left c.args.inbox.now) c.args.engine.now c.checkout.new.self c.args.disk.now c.requires.may
    (subst (λ (n : Checkout). ChecksOut (Ok n) c.args.moment c.args.engine.now c.checkout.new.self) c.in-Rest.is c.in_ok-checkout.ensures.leaves) (λ is. absurd cc) (λ is. absurd cc)
    (record { limited = λ limit is. absurd cc; damaged = λ damage is. absurd cc })

pub returns-in-Blocked-clause-leaves : goal.returns-in-Blocked-clause-leaves
returns-in-Blocked-clause-leaves g c =
    let D = g.D.Disk in
    leaves_unmoved _ D.tells D.held D.moment D.images g.I.Inbox.tells (g.I.Inbox.left c.args.inbox.now) c.args.engine.now c.checkout.new.self c.args.disk.now c.requires.may
    (subst (λ (n : Checkout). ChecksOut (Ok n) c.args.moment c.args.engine.now c.checkout.new.self) c.in-Blocked.is c.in_ok-checkout.ensures.leaves) (λ is. absurd cc) (λ is. absurd cc)
    (record { limited = λ limit is. absurd cc; damaged = λ damage is. absurd cc })

pub returns-in-Quiet-clause-leaves : goal.returns-in-Quiet-clause-leaves
returns-in-Quiet-clause-leaves g c =
    let D = g.D.Disk in
    leaves_unmoved _ D.tells D.held D.moment D.images g.I.Inbox.tells (g.I.Inbox.left c.args.inbox.now) c.args.engine.now c.checkout.new.self c.args.disk.now c.requires.may
    (subst (λ (n : Checkout). ChecksOut (Ok n) c.args.moment c.args.engine.now c.checkout.new.self) c.in-Quiet.is c.in_ok-checkout.ensures.leaves) (λ is. absurd cc) (λ is. absurd cc)
    (record { limited = λ limit is. absurd cc; damaged = λ damage is. absurd cc })
