use Rattle.std.proofs.Common.{◌≡◌, List, [], ◌∷◌, ◌++◌, ap, subst, sym, ◌∙◌}
use Rattle.std.specs.Prelude.{Some}
use Rattle.store_core.specs.Store.{kept_by}
use Rattle.engine_steps.specs.Checkout.{MayTakeFiles, session_in}
use Rattle.engine_steps.specs.Engine.{EngineState}
use Rattle.engine_steps.specs.Flights.{taken_by}
use Rattle.engine_steps.specs.Ready.{IsReadyInMemory}
use Rattle.engine_steps.specs.declared.flight.InFlight.{InFlight}
use Rattle.engine_steps.proofs.Beginning.{begun_so, files_may, processor_within, ready_so}
use Rattle.engine_steps.proofs.engine.Engine.begin.Goals as goal

pub take-place-requires-clause-files : goal.take-place-requires-clause-files
take-place-requires-clause-files c =
    let i = c.self.inside in
    let e : EngineState = record { flow = i.flow.now; store = i.store; queues = i.queues; listing = i.listing; last = i.last; journal = i.journal.items; most = i.most; checkpoint = i.checkpoint; since_reclaim = i.since_reclaim; failed = i.has_failed; tended = i.tended; out = i.out.items; next_session = i.next_session } in
    let ready = subst IsReadyInMemory (sym c.self.view_is) c.requires.ready in
    let chosen = subst (λ (o : EngineState). session_in o c.args.moment ≡ Some c.args.choice) (sym c.self.view_is) c.requires.chosen in (
      e.flow,
      kept_by e.store,
      taken_by e.out,
      files_may c.chosen_files_are_taken.ensures c.names_go_back.ensures.back e c.args.moment c.args.choice ready c.state-stored.ensures.consistent c.state-stored.ensures.no_batches chosen,
    )

pub take-place-requires-clause-processor : goal.take-place-requires-clause-processor
take-place-requires-clause-processor c =
    let i = c.self.inside in
    let e : EngineState = record { flow = i.flow.now; store = i.store; queues = i.queues; listing = i.listing; last = i.last; journal = i.journal.items; most = i.most; checkpoint = i.checkpoint; since_reclaim = i.since_reclaim; failed = i.has_failed; tended = i.tended; out = i.out.items; next_session = i.next_session } in
    let ready = subst IsReadyInMemory (sym c.self.view_is) c.requires.ready in
    let chosen = subst (λ (o : EngineState). session_in o c.args.moment ≡ Some c.args.choice) (sym c.self.view_is) c.requires.chosen in
    processor_within c.chosen_files_are_taken.ensures c.names_go_back.ensures.back e c.args.moment c.args.choice ready c.state-stored.ensures.consistent c.state-stored.ensures.no_batches chosen

pub returns-clause-begun : goal.returns-clause-begun
returns-clause-begun c =
    let i = c.self.inside in
    let e : EngineState = record { flow = i.flow.now; store = i.store; queues = i.queues; listing = i.listing; last = i.last; journal = i.journal.items; most = i.most; checkpoint = i.checkpoint; since_reclaim = i.since_reclaim; failed = i.has_failed; tended = i.tended; out = i.out.items; next_session = i.next_session } in
    let law = c.chosen_files_are_taken.ensures in
    let names = c.names_go_back.ensures.back in
    let place = c.take-place.result in
    let flight : InFlight = record { session = i.next_session; moment = c.args.moment; choice = c.args.choice; place = place } in
    let ready = subst IsReadyInMemory (sym c.self.view_is) c.requires.ready in
    let chosen = subst (λ (o : EngineState). session_in o c.args.moment ≡ Some c.args.choice) (sym c.self.view_is) c.requires.chosen in
    let consistent = c.state-stored.ensures.consistent in
    let no_batches = c.state-stored.ensures.no_batches in
    let may : MayTakeFiles e.flow (kept_by e.store) (taken_by e.out) c.args.choice.taking e.queues = files_may law names e c.args.moment c.args.choice ready consistent no_batches chosen in
    let are = c.take-place.ensures.out e.flow (kept_by e.store) (taken_by e.out) may in
    let pushed : c.push_reserved.new.self.items ≡ i.out.items ++ flight ∷ [] = c.push_reserved.ensures.items ∙ ap (λ (l : List InFlight). l ++ flight ∷ []) c.reserve.ensures.items in
    begun_so law names e c.args.moment c.args.choice ready consistent no_batches chosen place c.take-place.new.queues c.take-place.new.listing are c.take-place.ensures.same c.take-place.ensures.place
    c.args.self.now c.self.view_is c.push_reserved.new.self.items pushed

pub returns-clause-ready : goal.returns-clause-ready
returns-clause-ready c =
    let i = c.self.inside in
    let e : EngineState = record { flow = i.flow.now; store = i.store; queues = i.queues; listing = i.listing; last = i.last; journal = i.journal.items; most = i.most; checkpoint = i.checkpoint; since_reclaim = i.since_reclaim; failed = i.has_failed; tended = i.tended; out = i.out.items; next_session = i.next_session } in
    let law = c.chosen_files_are_taken.ensures in
    let names = c.names_go_back.ensures.back in
    let place = c.take-place.result in
    let flight : InFlight = record { session = i.next_session; moment = c.args.moment; choice = c.args.choice; place = place } in
    let ready = subst IsReadyInMemory (sym c.self.view_is) c.requires.ready in
    let chosen = subst (λ (o : EngineState). session_in o c.args.moment ≡ Some c.args.choice) (sym c.self.view_is) c.requires.chosen in
    let consistent = c.state-stored.ensures.consistent in
    let no_batches = c.state-stored.ensures.no_batches in
    let may : MayTakeFiles e.flow (kept_by e.store) (taken_by e.out) c.args.choice.taking e.queues = files_may law names e c.args.moment c.args.choice ready consistent no_batches chosen in
    let are = c.take-place.ensures.out e.flow (kept_by e.store) (taken_by e.out) may in
    let pushed : c.push_reserved.new.self.items ≡ i.out.items ++ flight ∷ [] = c.push_reserved.ensures.items ∙ ap (λ (l : List InFlight). l ++ flight ∷ []) c.reserve.ensures.items in
    ready_so law names e c.args.moment c.args.choice ready consistent no_batches chosen place c.take-place.new.queues c.take-place.new.listing are c.take-place.ensures.same c.take-place.ensures.place
    c.args.self.now c.self.view_is c.push_reserved.new.self.items pushed
