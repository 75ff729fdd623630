use Rattle.std.proofs.Common.{◌≡◌, ◌<◌, ◌++◌, ◌∷◌, [], List, sym, ap, subst, ◌∙◌}
use Rattle.std.specs.List.{All}
use Rattle.flowfile_record.specs.NumberedItems.{AscendsByNumber}
use Rattle.flowfile_record.specs.declared.event.Event.{Event}
use Rattle.prov_index.specs.Index.{event_number, names_file, numbers_naming}
use Rattle.prov_index.specs.Lists.{list_of, noted_if}
use Rattle.prov_index.proofs.Noting.{joined}
use Rattle.prov_index.proofs.Numbered.{ascends-push}
use Rattle.prov_index.proofs.index.Index.add.Goals as goal

pub invariant_of-self-2 : goal.invariant_of-self-2
invariant_of-self-2 c =
    let event = c.args.event in
    let events = c.self.inside.events.items in
    let now : c.push_reserved.new.self.items ≡ events ++ event ∷ [] = c.push_reserved.ensures.items ∙ ap (λ (l : List Event). l ++ event ∷ []) c.reserve.ensures.items in
    let below : All (λ (earlier : Event). earlier.number < event.number) events = subst (All (λ (earlier : Event). earlier.number < event.number)) (sym c.self.view_is) c.requires in (
      subst (AscendsByNumber event_number) (sym now) (ascends-push event_number events event c.self.invariant.0 below),
      λ file.
          c.note_event.ensures file ∙ ap (noted_if (names_file file event) event.number) (c.in_ok-reserve_event.ensures.same file ∙ c.self.invariant.1 file) ∙ joined file events event below
          ∙ ap (λ (l : List Event). numbers_naming l file) (sym now),
    )
