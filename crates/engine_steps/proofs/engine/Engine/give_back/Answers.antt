use Rattle.std.proofs.Common.{◌≡◌, true≢false, List, map, sym, ap, subst, ◌∙◌}
use Rattle.std.specs.Prelude.{None, Some, find}
use Rattle.checkpoint_store.specs.Consistent.{IsConsistent}
use Rattle.flow_queue.specs.Queue.{QueueState}
use Rattle.store_core.specs.Store.{kept_by}
use Rattle.engine_queues.specs.Listing.{Left}
use Rattle.engine_queues.specs.Settling.{without_flights}
use Rattle.engine_steps.specs.Ending.{MayGiveFilesBack}
use Rattle.engine_steps.specs.Engine.{EngineState}
use Rattle.engine_steps.specs.Flights.{has_session, taken_by}
use Rattle.engine_steps.specs.declared.flight.InFlight.{InFlight}
use Rattle.engine_steps.proofs.Flights.{IsNameTaken, none_flies}
use Rattle.engine_steps.proofs.HandedBack.{changed, gives_files_back, has_ended, name_is_taken, still_ready}
use Rattle.engine_steps.proofs.engine.Engine.give_back.Goals as goal

pub unreachable-requires : goal.unreachable-requires
unreachable-requires c =
    let e : EngineState = c.args.self.now in
    let out : c.deref.result.now ≡ e.out = c.deref.ensures.value ∙ ap (λ (x : EngineState). x.out) c.self.view_is in
    let none : find (has_session c.args.session) e.out ≡ None = sym (c.in_default.ensures ∙ ap (λ (fs : List InFlight). find (has_session c.args.session) fs) out) in
    true≢false (sym c.requires.flying ∙ none_flies c.args.session e.out none)

pub give_files_back-requires : goal.give_files_back-requires
give_files_back-requires c =
    let e : EngineState = c.args.self.now in
    let flight : InFlight = c.in-Some.flight.now in
    let out : c.deref.result.now ≡ e.out = c.deref.ensures.value ∙ ap (λ (x : EngineState). x.out) c.self.view_is in
    let found : find (has_session c.args.session) e.out ≡ Some flight = sym (c.in-Some.ensures ∙ ap (λ (fs : List InFlight). find (has_session c.args.session) fs) out) in
    let consistent = subst (λ (x : EngineState). IsConsistent (kept_by x.store)) c.self.view_is c.state-stored.ensures.consistent in (
      e.flow,
      kept_by e.store,
      taken_by e.out,
      subst (λ (queues : List QueueState). MayGiveFilesBack e.flow (kept_by e.store) (taken_by e.out) flight.choice.taking queues) (sym (ap (λ (x : EngineState). x.queues) c.self.view_is))
          (gives_files_back e c.args.session flight c.requires.ready found consistent),
    )

pub give_name_back-requires : goal.give_name_back-requires
give_name_back-requires c =
    let e : EngineState = c.args.self.now in
    let flight : InFlight = c.in-Some.flight.now in
    let out : c.deref.result.now ≡ e.out = c.deref.ensures.value ∙ ap (λ (x : EngineState). x.out) c.self.view_is in
    let found : find (has_session c.args.session) e.out ≡ Some flight = sym (c.in-Some.ensures ∙ ap (λ (fs : List InFlight). find (has_session c.args.session) fs) out) in
    subst (λ (l : Left). IsNameTaken l flight) (sym (ap (λ (x : EngineState). x.listing) c.self.view_is)) (name_is_taken e c.args.session flight c.requires.ready found)

pub returns-clause-ended : goal.returns-clause-ended
returns-clause-ended c =
    let e : EngineState = c.args.self.now in
    let flight : InFlight = c.in-Some.flight.now in
    let out : c.deref.result.now ≡ e.out = c.deref.ensures.value ∙ ap (λ (x : EngineState). x.out) c.self.view_is in
    let found : find (has_session c.args.session) e.out ≡ Some flight = sym (c.in-Some.ensures ∙ ap (λ (fs : List InFlight). find (has_session c.args.session) fs) out) in
    has_ended e c.args.session flight c.requires.ready found _ c.give_files_back.new.queues
    (changed flight c.args.session _ e c.give_files_back.new.queues c.give_name_back.new.listing _ c.self.view_is c.give_name_back.ensures c.drop_session.ensures)
    c.names_go_back.ensures.back
    (c.give_files_back.ensures.same ∙ ap (λ (x : EngineState). map without_flights x.queues) c.self.view_is)

pub returns-clause-ready : goal.returns-clause-ready
returns-clause-ready c =
    let e : EngineState = c.args.self.now in
    let flight : InFlight = c.in-Some.flight.now in
    let out : c.deref.result.now ≡ e.out = c.deref.ensures.value ∙ ap (λ (x : EngineState). x.out) c.self.view_is in
    let found : find (has_session c.args.session) e.out ≡ Some flight = sym (c.in-Some.ensures ∙ ap (λ (fs : List InFlight). find (has_session c.args.session) fs) out) in
    let consistent = subst (λ (x : EngineState). IsConsistent (kept_by x.store)) c.self.view_is c.state-stored.ensures.consistent in
    let may = subst (λ (queues : List QueueState). MayGiveFilesBack e.flow (kept_by e.store) (taken_by e.out) flight.choice.taking queues) (sym (ap (λ (x : EngineState). x.queues) c.self.view_is))
    (gives_files_back e c.args.session flight c.requires.ready found consistent) in
    still_ready e c.args.session flight c.requires.ready found _ c.give_files_back.new.queues
    (changed flight c.args.session _ e c.give_files_back.new.queues c.give_name_back.new.listing _ c.self.view_is c.give_name_back.ensures c.drop_session.ensures)
    (c.give_files_back.ensures.back e.flow (kept_by e.store) (taken_by e.out) may)
