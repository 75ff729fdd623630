use Rattle.std.proofs.Common.{ℕ, Result, Some, None, ◌≡◌, get_or, sym, ap, subst, ◌∙◌, rules}
use Rattle.std.specs.Prelude.{MatchResult}
use Rattle.std.proofs.lemmas.Fn.{always_returns_same}
use Rattle.flowfile_record.specs.declared.event.Event.{Event}
use Rattle.prov_index.specs.Index.{event_number, event_of}
use Rattle.prov_index.proofs.Numbered.{searched}
use Rattle.prov_index.proofs.index.find.Goals as goal

pub returns-in-Ok : goal.returns-in-Ok
returns-in-Ok c =
    let events = c.args.events.now in
    let by = c.binary_search_by_key.ensures.position event_number (always_returns_same _ _ _ (λ a r f called. search rules)) in
    let Says : Result ℕ ℕ → Type 0 = λ r. MatchResult r (λ place. (d : Event) → event_of events c.args.number ≡ Some (get_or events place d)) (λ _. event_of events c.args.number ≡ None) in
    let at = subst Says c.in-Ok.is (searched event_number events c.args.number _ c.requires c.binary_search_by_key.ensures.bound by) in
    ap Some c.index-events-place.is ∙ sym (at c.index-events-place.result)

pub returns-in-Err : goal.returns-in-Err
returns-in-Err c =
    let events = c.args.events.now in
    let by = c.binary_search_by_key.ensures.position event_number (always_returns_same _ _ _ (λ a r f called. search rules)) in
    let Says : Result ℕ ℕ → Type 0 = λ r. MatchResult r (λ place. (d : Event) → event_of events c.args.number ≡ Some (get_or events place d)) (λ _. event_of events c.args.number ≡ None) in
    sym (subst Says c.in-Err.is (searched event_number events c.args.number _ c.requires c.binary_search_by_key.ensures.bound by))
