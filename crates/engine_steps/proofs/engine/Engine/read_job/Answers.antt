use Rattle.std.proofs.Common.{◌≡◌, ◌∙◌, Bor, List, ap, sym, subst, false}
use Rattle.std.specs.Prelude.{find, Some, IfOk}
use Rattle.std.proofs.lemmas.Result.{IfOk-weaker}
use Rattle.content_repo.specs.Claims.{content_in}
use Rattle.store_core.specs.Store.{kept_by}
use Rattle.engine_session.specs.Done.{MayWorkOn}
use Rattle.engine_session.specs.declared.job.Job.{Job}
use Rattle.engine_session.proofs.SessionSteps.{may_work}
use Rattle.engine_steps.specs.Engine.{AreTakeable, EngineState}
use Rattle.engine_steps.specs.Flights.{has_session, is_in_flight, names_to_come}
use Rattle.engine_steps.specs.Handing.{asks_at}
use Rattle.engine_steps.specs.HandingParts.{IsUncalled}
use Rattle.engine_steps.specs.OwnJob.{IsJobOf}
use Rattle.engine_steps.specs.Ready.{IsReadyInMemory}
use Rattle.engine_steps.specs.declared.flight.InFlight.{InFlight}
use Rattle.engine_steps.proofs.OwnJob.{flight_job_if, flight_may_hand, flight_receives, flight_takes, found_alone, found_at, must_be_found}
use Rattle.engine_steps.proofs.engine.Engine.read_job.Goals as goal

pub unreachable-requires : goal.unreachable-requires
unreachable-requires g c =
    must_be_found c.args.session c.deref.result.now (λ (f : Bor InFlight). f.now) c.flight_in.result c.flight_in.ensures
    (ap (λ (out : List InFlight). is_in_flight c.args.session out) (c.deref.ensures.value ∙ ap (λ (e : EngineState). e.out) c.self.view_is) ∙ c.requires.flying) c.in_default.not-Some

pub hand-requires-clause-taken : goal.hand-requires-clause-taken
hand-requires-clause-taken g c κs within =
    flight_takes _ (subst (λ (e : EngineState). IsReadyInMemory e) (sym c.self.view_is) c.requires.ready.memory) c.args.session c.in-Some.flight.now
    (found_at c.args.session c.deref.result.now (λ (f : Bor InFlight). f.now) c.flight_in.result c.flight_in.ensures c.self.inside.out.items c.deref.ensures.value c.in-Some.flight c.in-Some.is)

pub hand-requires-clause-received : goal.hand-requires-clause-received
hand-requires-clause-received g c κs within telling =
    flight_receives _ (subst (λ (e : EngineState). IsReadyInMemory e) (sym c.self.view_is) c.requires.ready.memory) c.args.session c.in-Some.flight.now
    (found_at c.args.session c.deref.result.now (λ (f : Bor InFlight). f.now) c.flight_in.result c.flight_in.ensures c.self.inside.out.items c.deref.ensures.value c.in-Some.flight c.in-Some.is)
    (g.I.Inbox.left c.args.inbox.now) (subst (λ (e : EngineState). AreTakeable (g.I.Inbox.left c.args.inbox.now) (names_to_come e)) (sym c.self.view_is) (c.requires.left telling))

pub returns-clause-job : goal.returns-clause-job
returns-clause-job g c =
    let contents = content_in (g.D.Disk.held c.args.disk.now) in
    let left = g.I.Inbox.left c.args.inbox.now in
    let standing = g.O.Outbox.standing c.args.outbox.now in
    subst (λ (e : EngineState). IfOk c.hand.result (λ (job : Job). (flight : InFlight) → find (has_session c.args.session) e.out ≡ Some flight
    → IsJobOf g.D.Disk.tells g.I.Inbox.tells g.O.Outbox.tells e contents left standing flight job)) c.self.view_is
    (flight_job_if c.hand.result g.D.Disk.tells g.I.Inbox.tells g.O.Outbox.tells _ (subst (λ (e : EngineState). IsReadyInMemory e) (sym c.self.view_is) c.requires.ready.memory) c.args.session c.in-Some.flight.now
    (found_at c.args.session c.deref.result.now (λ (f : Bor InFlight). f.now) c.flight_in.result c.flight_in.ensures c.self.inside.out.items c.deref.ensures.value c.in-Some.flight c.in-Some.is)
    contents left standing c.hand.ensures.handed c.hand.ensures.told)

pub returns-clause-uncalled : goal.returns-clause-uncalled
returns-clause-uncalled g c =
    subst (λ (e : EngineState). (flight : InFlight) → find (has_session c.args.session) e.out ≡ Some flight → asks_at e.flow flight.choice.processor ≡ false
    → IsUncalled c.hand.result c.args.outbox.now c.hand.new.outbox) c.self.view_is
    (found_alone _ (subst (λ (e : EngineState). IsReadyInMemory e) (sym c.self.view_is) c.requires.ready.memory) c.args.session c.in-Some.flight.now
    (found_at c.args.session c.deref.result.now (λ (f : Bor InFlight). f.now) c.flight_in.result c.flight_in.ensures c.self.inside.out.items c.deref.ensures.value c.in-Some.flight c.in-Some.is)
    (λ (f : InFlight). asks_at c.self.inside.flow.now f.choice.processor ≡ false → IsUncalled c.hand.result c.args.outbox.now c.hand.new.outbox) c.hand.ensures.uncalled)

pub returns-clause-may : goal.returns-clause-may
returns-clause-may g c =
    let ready = subst (λ (e : EngineState). IsReadyInMemory e) (sym c.self.view_is) c.requires.ready.memory in
    IfOk-weaker c.hand.result _ _
    (λ (job : Job) handed.
    subst (λ (x : EngineState). MayWorkOn x.flow (kept_by x.store).store job) c.self.view_is
    (may_work c.taken_files_are_handed.ensures.may c.self.inside.flow.now (kept_by c.self.inside.store) job ready.sound c.holds_its_state.ensures.kept.0
    (flight_may_hand _ ready c.args.session c.in-Some.flight.now
    (found_at c.args.session c.deref.result.now (λ (f : Bor InFlight). f.now) c.flight_in.result c.flight_in.ensures c.self.inside.out.items c.deref.ensures.value c.in-Some.flight c.in-Some.is)
    job handed)))
    c.hand.ensures.handed
