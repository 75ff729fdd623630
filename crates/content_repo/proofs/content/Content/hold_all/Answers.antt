use Rattle.std.proofs.Common.{◌≡◌, ◌<◌, [], ◌∙◌, List, length, take, max, get_or, ap, sym, subst, arith}
use Rattle.std.proofs.lemmas.List.{take_more}
use Rattle.std.proofs.lemmas.List.Elements.{All-get_or}
use Rattle.flowfile_record.specs.declared.content.ContentRef.{ContentRef}
use Rattle.content_repo.specs.declared.slot.Slot.{Slot}
use Rattle.content_repo.specs.Slots.{IsLoaded, IsNamed, end_of, size_of}
use Rattle.content_repo.proofs.SlotLists.{loaded_more}
use Rattle.content_repo.proofs.content.Content.hold_all.Goals as goal

pub loop-at-preserved : goal.loop-at-preserved
loop-at-preserved c =
    let refs = c.args.live.now in
    let i = c.loop-at.at-index in
    let none : ContentRef = record { slot = 0; offset = 0; size = 0; digest = [] } in
    let at = get_or refs i none in
    let named : IsNamed at = All-get_or IsNamed refs i none c.loop-at-test.true c.requires.live.named in
    let within : at.slot < length c.loop-at.self = omega (arith, named.0, c.slot.ensures.long) in
    let sized : c.max-size.result ≡ max (size_of c.loop-at.self at.slot) (end_of at) = c.max-size.ensures ∙ ap (λ (s : Slot). max s.size (end_of at)) c.slot.ensures.slot in
    record {
      loaded =
          subst (λ (l : List ContentRef). IsLoaded l c.take.new.self) (sym (take_more refs i none c.loop-at-test.true))
          (rw c.take.ensures.value (loaded_more (take i refs) at c.loop-at.self c.max-size.result c.loop-at.invariant.loaded within sized));
      held = omega (arith, c.take.ensures.held, c.loop-at.invariant.held);
    }
