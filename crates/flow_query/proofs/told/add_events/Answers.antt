use Rattle.std.proofs.Common.{◌≡◌, ◌<◌, List, ◌∷◌, ◌++◌, sym, ap, subst, ◌∙◌, append_assoc}
use Rattle.std.specs.Prelude.{All}
use Rattle.std.specs.Vec.Iter.{into_iter_items}
use Rattle.flowfile_record.specs.NumberedItems.{AscendsByNumber}
use Rattle.flowfile_record.specs.declared.event.Event.{Event}
use Rattle.prov_index.specs.Index.{event_number}
use Rattle.flow_query.proofs.Telling.{below_next}
use Rattle.flow_query.proofs.told.add_events.Goals as goal

below : (old yielded rest later events index : List Event) (e : Event) → AscendsByNumber event_number (old ++ events) → index ≡ old ++ yielded → yielded ++ rest ≡ events → rest ≡ e ∷ later
    → All (λ x. x.number < e.number) index
below old yielded rest later events index e up at left steps =
    let whole : old ++ events ≡ (old ++ yielded) ++ e ∷ later =
    ap (λ (l : List Event). old ++ l) (sym left ∙ ap (λ (l : List Event). yielded ++ l) steps) ∙ sym (append_assoc old yielded (e ∷ later)) in
    subst (λ (l : List Event). All (λ (x : Event). x.number < e.number) l) (sym at) (below_next (old ++ yielded) e later (subst (AscendsByNumber event_number) whole up))

pub add-requires : goal.add-requires
add-requires c =
    below c.args.index.now c.loop-event.yielded (into_iter_items c.loop-event.event-iterator) (into_iter_items c.next.new.self) c.args.events.items c.loop-event.index c.in-Some.event c.requires
    c.loop-event.invariant.index c.loop-event.invariant.left c.in-Some.ensures.steps.0
