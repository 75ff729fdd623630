use Rattle.std.proofs.Common.{◌≡◌, ℕ, Bool, false, List, length, refl, sym, ap, subst, ◌∙◌}
use Rattle.std.specs.Prelude.{Option, All, slice_get}
use Rattle.std.proofs.lemmas.List.{length-set, with_items_is}
use Rattle.engine_queues.specs.declared.listing.Source.{Source}
use Rattle.engine_queues.specs.Listing.{Left, with_mark}
use Rattle.engine_queues.specs.ListingInside.{HasMarks, StillSuits}
use Rattle.engine_queues.proofs.Sources.{all-marks, still-sound}
use Rattle.engine_queues.proofs.listing.Listing.give_back.Goals as goal

pub move_back-requires-clause-marks : goal.move_back-requires-clause-marks
move_back-requires-clause-marks c =
    let long : length c.deref.result.now ≡ length c.self.inside.taken.items =
    ap length c.deref.ensures.value ∙ length-set c.self.inside.taken.items c.args.place false in
    let P : ℕ → Type 0 = λ n. All (HasMarks n) c.self.inside.sources.items in
    let Q : List (Option Source) → Type 0 = λ l. All (HasMarks (length c.deref.result.now)) l in
    subst Q (sym c.deref_mut.ensures.value) (subst P (sym long) (all-marks c.self.inside c.self.invariant))

pub invariant_of-self : goal.invariant_of-self
invariant_of-self c =
    let count : length c.move_back.new.sources ≡ length c.self.inside.sources.items = c.move_back.auto.sources ∙ ap length c.deref_mut.ensures.value in
    let items = with_items_is c.self.inside.sources c.move_back.new.sources (count ∙ sym c.self.inside.sources.ok.0) in
    still-sound false c.self.inside _ c.args.place c.self.invariant refl refl refl refl (ap length items ∙ count)
    (λ k was now there there_now.
    let earlier = ap (λ l. slice_get l k) c.deref_mut.ensures.value ∙ there in
    let P : List Bool → Type 0 = λ taken. StillSuits false taken c.args.place was now in
    subst P c.deref.ensures.value (c.move_back.ensures k was now earlier (ap (λ l. slice_get l k) (sym items) ∙ there_now)))

pub returns : goal.returns
returns c = ap (λ (l : Left). with_mark false c.args.place l) c.self.view_is
