use Rattle.std.proofs.Common.{◌≡◌, ℕ, false, refl, sym, ap, subst, arith}
use Rattle.std.specs.Prelude.{Ok, None, Result}
use Rattle.std.proofs.lemmas.Result.{err_from_is_err_and}
use Rattle.run_law.specs.Work.{IsShortOn}
use Rattle.machine_model.specs.Acknowledged.{steps}
use Rattle.engine_steps.specs.Engine.{EngineState}
use Rattle.engine_steps.specs.Ready.{expiry_in}
use Rattle.engine_steps.specs.Running.{undone_step}
use Rattle.engine_steps.specs.Tending.{HasTended}
use Rattle.engine_steps.specs.declared.error.EngineError.{EngineError}
use Rattle.engine_steps.specs.declared.tending.Tended.{Tended}
use Rattle.engine_steps.specs.declared.tending.Tended.TheVariants.{Nothing}
use Rattle.flow_scheduler.proofs.Turning.{may_turn, no_fault, still_works, stopped_at}
use Rattle.flow_scheduler.proofs.Growing.{grows_behind, tended_grows}
use Rattle.flow_scheduler.proofs.InTurn.{expiry_turns, in_turn_of, tend_stops, tended_turns, turns_of}
use Rattle.run_law.specs.Puts.{outgoing}
use Rattle.flow_scheduler.proofs.driving.turn.Goals as goal

pub returns-in_err-tend-clause-run : goal.returns-in_err-tend-clause-run
returns-in_err-tend-clause-run g c telling in_telling out_telling opened first start time le run =
    let e : EngineState = c.args.engine.now in
    let f : EngineState = c.tend.new.self in
    let moment = c.args.moment in
    let m = run.run.reached in
    let waited = c.turns_go_on.ensures.later e.flow start.time time moment opened (steps e.journal) run.turns le in
    let next = expiry_turns c.turns_go_on.ensures.next e m opened start.time time moment c.requires.may.none (c.shows_its_state.ensures telling m run.run.to.run.holds) le run.turns run.run.to.run.ran.replays in
    let p = err_from_is_err_and c.from_residual.result c.from_residual.ensures.1 in
    let error = c.in_err-tend.field-0.0 in
    let tended = subst (λ (r : Result Tended EngineError). HasTended r moment (g.D.Disk.moment c.tend.new.disk) e f) c.in_err-tend.was c.tend.ensures.tended.done in
    stopped_at c.from_residual.result _ _ error (cc (p.1, p.2)) (record {
      next = undone_step error (expiry_in e moment);
      stops = (c.in_err-tend.ensures.run telling).stopped error refl c.requires.may.may.works opened first start time (g.I.Inbox.left c.args.inbox.now) (outgoing g.O.Outbox.standing g.O.Outbox.puts c.args.outbox.now) le run.run;
      turns = in_turn_of e.flow f.flow start.time moment opened f.journal (undone_step error (expiry_in e moment)) c.tend.ensures.alone.same.flow
          (tend_stops e.flow start.time moment opened moment (g.D.Disk.moment c.tend.new.disk) e f waited next error tended);
    })

pub go_on-requires-clause-short : goal.go_on-requires-clause-short
go_on-requires-clause-short g c κs within =
    let was = c.in_ok-tend.was in
    let nothing = c.in-Nothing.is in
    let is : c.tend.result ≡ Ok Nothing = cc in
    let none = c.tend.ensures.tended.nothing is in
    subst (λ (checkpoint : ℕ). IsShortOn g.D.Disk.moment g.D.Disk.images checkpoint c.tend.new.disk) (sym c.tend.ensures.alone.same.checkpoint)
    (subst (λ (d : _). IsShortOn g.D.Disk.moment g.D.Disk.images c.args.engine.now.checkpoint d) (sym none.0) none.1)

pub go_on-requires-clause-may : goal.go_on-requires-clause-may
go_on-requires-clause-may g c κs within =
    let well : c.tend.new.self.failed ≡ false = still_works c.in_ok-tend.field-0 c.args.engine.now c.tend.new.self _ _ c.requires.may.may.works c.in_ok-tend.ensures.refusal.reopen in
    let D = g.D.Disk in
    may_turn D.tells D.held D.moment D.images g.I.Inbox.tells (g.I.Inbox.left c.args.inbox.now) c.args.engine.now c.tend.new.self c.args.disk.now c.tend.new.disk c.requires.may c.tend.ensures.alone.listing c.tend.ensures.alone.out
    (c.in_ok-tend.ensures.usable well) well

pub returns-in-Nothing-clause-run : goal.returns-in-Nothing-clause-run
returns-in-Nothing-clause-run g c telling in_telling out_telling opened first start time le run =
    let well : c.tend.new.self.failed ≡ false = still_works c.in_ok-tend.field-0 c.args.engine.now c.tend.new.self _ _ c.requires.may.may.works c.in_ok-tend.ensures.refusal.reopen in
    let e : EngineState = c.args.engine.now in
    let f : EngineState = c.tend.new.self in
    let moment = c.args.moment in
    let m = run.run.reached in
    let waited = c.turns_go_on.ensures.later e.flow start.time time moment opened (steps e.journal) run.turns le in
    let next = expiry_turns c.turns_go_on.ensures.next e m opened start.time time moment c.requires.may.none (c.shows_its_state.ensures telling m run.run.to.run.holds) le run.turns run.run.to.run.ran.replays in
    c.go_on.ensures.run telling in_telling out_telling opened first start moment (omega arith) (record {
      run = (c.in_ok-tend.ensures.run telling).goes_on well opened first start time (g.I.Inbox.left c.args.inbox.now) (outgoing g.O.Outbox.standing g.O.Outbox.puts c.args.outbox.now) le run.run;
      turns = turns_of e.flow f.flow start.time moment opened (steps f.journal) c.tend.ensures.alone.same.flow
          (tended_turns e.flow start.time moment opened moment (g.D.Disk.moment c.tend.new.disk) e f waited next c.tend.result c.tend.ensures.tended.done);
    })

pub returns-in-Expired : goal.returns-in-Expired
returns-in-Expired g c =
    let D = g.D.Disk in
    let well : c.tend.new.self.failed ≡ false = still_works c.in_ok-tend.field-0 c.args.engine.now c.tend.new.self _ _ c.requires.may.may.works c.in_ok-tend.ensures.refusal.reopen in
    record {
      run = λ telling in_telling out_telling opened first start time le run.
          let e : EngineState = c.args.engine.now in
          let f : EngineState = c.tend.new.self in
          let moment = c.args.moment in
          let m = run.run.reached in
          let waited = c.turns_go_on.ensures.later e.flow start.time time moment opened (steps e.journal) run.turns le in
          let next = expiry_turns c.turns_go_on.ensures.next e m opened start.time time moment c.requires.may.none (c.shows_its_state.ensures telling m run.run.to.run.holds) le run.turns run.run.to.run.ran.replays in
          record {
            run = (c.in_ok-tend.ensures.run telling).goes_on well opened first start time (g.I.Inbox.left c.args.inbox.now) (outgoing g.O.Outbox.standing g.O.Outbox.puts c.args.outbox.now) le run.run;
            turns = turns_of e.flow f.flow start.time moment opened (steps f.journal) c.tend.ensures.alone.same.flow
                (tended_turns e.flow start.time moment opened moment (g.D.Disk.moment c.tend.new.disk) e f waited next c.tend.result c.tend.ensures.tended.done);
          };
      short = λ end is. absurd cc;
      leaves = record {
        may = may_turn D.tells D.held D.moment D.images g.I.Inbox.tells (g.I.Inbox.left c.args.inbox.now) c.args.engine.now c.tend.new.self c.args.disk.now c.tend.new.disk c.requires.may c.tend.ensures.alone.listing
            c.tend.ensures.alone.out (c.in_ok-tend.ensures.usable well) well;
        usable = c.tend.ensures.usable;
        failed = λ fails. absurd cc;
        works = λ is. absurd cc;
        known = λ is. absurd cc;
        same = c.tend.ensures.alone.same;
        alone = c.tend.ensures.alone.alone;
        why = record { limited = λ limit is. absurd cc; damaged = λ damage is. absurd cc };
      };
      grows = tended_grows c.tend.result c.args.moment (D.moment c.tend.new.disk) c.args.engine.now c.tend.new.self c.tend.ensures.tended.done;
      log = c.in_ok-tend.ensures.alone.log;
      cause =
          no_fault None (D.faults c.args.disk.now) (D.faults c.tend.new.disk) (g.I.Inbox.faults c.args.inbox.now) (g.I.Inbox.faults c.args.inbox.now) (g.O.Outbox.faults c.args.outbox.now) (g.O.Outbox.faults c.args.outbox.now)
          c.tend.ensures.refusal.disk.never_falls (omega arith) (omega arith);
    }

pub returns-in_err-tend-clause-grows : goal.returns-in_err-tend-clause-grows
returns-in_err-tend-clause-grows g c = tended_grows c.tend.result c.args.moment (g.D.Disk.moment c.tend.new.disk) c.args.engine.now c.tend.new.self c.tend.ensures.tended.done

pub returns-in-Nothing-clause-grows : goal.returns-in-Nothing-clause-grows
returns-in-Nothing-clause-grows g c =
    let was = c.in_ok-tend.was in
    let nothing = c.in-Nothing.is in
    let is : c.tend.result ≡ Ok Nothing = cc in
    let same = subst (λ (r : Result Tended EngineError). HasTended r c.args.moment (g.D.Disk.moment c.tend.new.disk) c.args.engine.now c.tend.new.self) is c.tend.ensures.tended.done in
    grows_behind c.args.moment c.args.engine.now.journal c.tend.new.self.journal c.go_on.new.engine.journal (ap (λ (x : EngineState). x.journal) same) c.go_on.ensures.grows
