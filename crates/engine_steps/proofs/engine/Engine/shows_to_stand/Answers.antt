use Rattle.std.proofs.Common.{◌≡◌, List, sym, subst, refl, ap, ◌∙◌, true≢false}
use Rattle.std.specs.Prelude.{IfOk, IsTrue, None, Some, find}
use Rattle.content_repo.specs.Claims.{content_in}
use Rattle.store_core.specs.Store.{kept_by}
use Rattle.engine_steps.specs.Engine.{EngineState}
use Rattle.engine_steps.specs.Flights.{has_session}
use Rattle.engine_steps.specs.Handing.{MayBeTaken}
use Rattle.engine_steps.specs.Standing.{HandedStands}
use Rattle.engine_steps.specs.declared.flight.InFlight.{InFlight}
use Rattle.engine_steps.proofs.Flights.{none_flies}
use Rattle.engine_steps.proofs.OwnJob.{flight_receives, flight_takes}
use Rattle.engine_steps.proofs.StandsStill.{flight_stands_so}
use Rattle.engine_steps.proofs.engine.Engine.shows_to_stand.Goals as goal

pub unreachable-requires : goal.unreachable-requires
unreachable-requires g c =
    let e : EngineState = c.args.self.now in
    let session = c.args.done.now.session in
    let out : c.deref.result.now ≡ e.out = c.deref.ensures.value ∙ ap (λ (x : EngineState). x.out) c.self.view_is in
    let none : find (has_session session) e.out ≡ None = sym (c.in_default.ensures ∙ ap (λ (fs : List InFlight). find (has_session session) fs) out) in
    true≢false (sym c.requires.flying ∙ none_flies session e.out none)

pub handed_stands-requires-clause-taken : goal.handed_stands-requires-clause-taken
handed_stands-requires-clause-taken g c κs within =
    let e : EngineState = c.args.self.now in
    let flight : InFlight = c.in-Some.flight.now in
    let out : c.deref.result.now ≡ e.out = c.deref.ensures.value ∙ ap (λ (x : EngineState). x.out) c.self.view_is in
    let found : find (has_session c.args.done.now.session) e.out ≡ Some flight = sym (c.in-Some.ensures ∙ ap (λ (fs : List InFlight). find (has_session c.args.done.now.session) fs) out) in
    subst (λ (x : EngineState). MayBeTaken (kept_by x.store) flight.choice.taking) (sym c.self.view_is) (flight_takes e c.requires.ready.memory c.args.done.now.session flight found)

pub handed_stands-requires-clause-received : goal.handed_stands-requires-clause-received
handed_stands-requires-clause-received g c κs within telling =
    let e : EngineState = c.args.self.now in
    let flight : InFlight = c.in-Some.flight.now in
    let out : c.deref.result.now ≡ e.out = c.deref.ensures.value ∙ ap (λ (x : EngineState). x.out) c.self.view_is in
    let found : find (has_session c.args.done.now.session) e.out ≡ Some flight = sym (c.in-Some.ensures ∙ ap (λ (fs : List InFlight). find (has_session c.args.done.now.session) fs) out) in
    flight_receives e c.requires.ready.memory c.args.done.now.session flight found (g.I.Inbox.left c.args.inbox.now) (c.requires.left telling)

pub returns-clause-so : goal.returns-clause-so
returns-clause-so g c is other other_is next =
    let e : EngineState = c.args.self.now in
    let contents = content_in (g.D.Disk.held c.args.disk.now) in
    let standing = g.O.Outbox.standing c.args.outbox.now in
    let done = c.args.done.now in
    let flight : InFlight = c.in-Some.flight.now in
    let out : c.deref.result.now ≡ e.out = c.deref.ensures.value ∙ ap (λ (x : EngineState). x.out) c.self.view_is in
    let found : find (has_session done.session) e.out ≡ Some flight = sym (c.in-Some.ensures ∙ ap (λ (fs : List InFlight). find (has_session done.session) fs) out) in
    let both : Some flight ≡ Some other = sym found ∙ other_is in
    let same : flight ≡ other = cc in
    let stands : HandedStands g.D.Disk.tells g.O.Outbox.tells c.self.inside.flow.now (kept_by c.self.inside.store) contents standing flight done =
    subst (λ r. IfOk r (λ stands. IsTrue stands → HandedStands g.D.Disk.tells g.O.Outbox.tells c.self.inside.flow.now (kept_by c.self.inside.store) contents standing flight done)) is c.handed_stands.ensures.stands refl in
    flight_stands_so g.D.Disk.tells g.I.Inbox.tells g.O.Outbox.tells e contents (g.I.Inbox.left c.args.inbox.now) standing done.session other done c.requires.ready.memory other_is next (c.requires.done other other_is)
    (subst (λ (f : InFlight). HandedStands g.D.Disk.tells g.O.Outbox.tells e.flow (kept_by e.store) contents standing f done) same
    (subst (λ (x : EngineState). HandedStands g.D.Disk.tells g.O.Outbox.tells x.flow (kept_by x.store) contents standing flight done) c.self.view_is stands))

pub returns-clause-refusal : goal.returns-clause-refusal
returns-clause-refusal g c =
    let leaves = c.handed_stands.ensures.leaves in
    record { unlimited = leaves.unlimited; works = leaves.works; known = leaves.known; unput = leaves.outbox.unput; damaged = leaves.contents.damaged }
