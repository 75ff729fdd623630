use Rattle.std.proofs.Common.{◌≡◌, ◌<◌, ◌≤◌, ℕ, Bool, true, List, [], length, get_or, refl, sym, ap, subst, ◌∙◌, arith}
use Rattle.std.specs.Prelude.{Option, Some, All, slice_get}
use Rattle.std.specs.List.{slice_index_or}
use Rattle.std.proofs.lemmas.List.{length-set, with_items_is}
use Rattle.std.proofs.lemmas.Option.{slice_get-get_or, slice_get_past}
use Rattle.engine_queues.specs.declared.listing.Source.{Source}
use Rattle.engine_queues.specs.Listing.{first_passed, names_left}
use Rattle.engine_queues.specs.ListingInside.{HasMarks, StillSuits}
use Rattle.engine_queues.proofs.Sources.{a-first, all-marks, left-at, no-first, still-sound, takes-first, takes-none}
use Rattle.engine_queues.proofs.listing.Listing.take_first.Goals as goal

pub returns-in_default : goal.returns-in_default
returns-in_default c p there =
    let at = ap (λ s. slice_get s.flow.processors c.args.processor) c.self.view_is ∙ there in
    let is = c.index.ensures ∙ ap (λ n. slice_index_or c.self.inside.sources.items n c.index.result.now) c.from.ensures in
    takes-none c.args.self.now p.kind
    (no-first c.self.inside c.self.invariant c.args.processor p c.index.result.now at is c.in_default.not-Some
    ∙ ap (λ s. first_passed p.kind (names_left s)) c.self.view_is)

pub returns-then-place-len : goal.returns-then-place-len
returns-then-place-len c p there =
    let at = ap (λ s. slice_get s.flow.processors c.args.processor) c.self.view_is ∙ there in
    let is = c.index.ensures ∙ ap (λ n. slice_index_or c.self.inside.sources.items n c.index.result.now) c.from.ensures in
    let past : length c.self.inside.names.items ≤ c.in-Some.source.first = omega arith in
    takes-none c.args.self.now p.kind
    (sym (slice_get_past c.self.inside.names.items c.in-Some.source.first past)
    ∙ a-first c.self.inside c.self.invariant c.args.processor p c.index.result.now c.in-Some.source at is c.in-Some.is
    ∙ ap (λ s. first_passed p.kind (names_left s)) c.self.view_is)

pub move_past-requires-clause-marks : goal.move_past-requires-clause-marks
move_past-requires-clause-marks c =
    let long : length c.deref.result.now ≡ length c.self.inside.taken.items =
    ap length c.deref.ensures.value ∙ length-set c.self.inside.taken.items c.in-Some.source.first true in
    let P : ℕ → Type 0 = λ n. All (HasMarks n) c.self.inside.sources.items in
    let Q : List (Option Source) → Type 0 = λ l. All (HasMarks (length c.deref.result.now)) l in
    subst Q (sym c.deref_mut.ensures.value) (subst P (sym long) (all-marks c.self.inside c.self.invariant))

pub invariant_of-self : goal.invariant_of-self
invariant_of-self c =
    let count : length c.move_past.new.sources ≡ length c.self.inside.sources.items = c.move_past.auto.sources ∙ ap length c.deref_mut.ensures.value in
    let items = with_items_is c.self.inside.sources c.move_past.new.sources (count ∙ sym c.self.inside.sources.ok.0) in
    still-sound true c.self.inside _ c.in-Some.source.first c.self.invariant refl refl refl refl (ap length items ∙ count)
    (λ k was now there there_now.
    let earlier = ap (λ l. slice_get l k) c.deref_mut.ensures.value ∙ there in
    let P : List Bool → Type 0 = λ taken. StillSuits true taken c.in-Some.source.first was now in
    subst P c.deref.ensures.value (c.move_past.ensures k was now earlier (ap (λ l. slice_get l k) (sym items) ∙ there_now)))

pub returns : goal.returns
returns c p there =
    let at = ap (λ s. slice_get s.flow.processors c.args.processor) c.self.view_is ∙ there in
    let is = c.index.ensures ∙ ap (λ n. slice_index_or c.self.inside.sources.items n c.index.result.now) c.from.ensures in
    let place = c.in-Some.source.first in
    let within : place < length c.self.inside.names.items = omega arith in
    let name = get_or c.self.inside.names.items place [] in
    let named : slice_get c.self.inside.names.items place ≡ Some name = slice_get-get_or c.self.inside.names.items place [] within in
    let first = a-first c.self.inside c.self.invariant c.args.processor p c.index.result.now c.in-Some.source at is c.in-Some.is in
    let left = left-at c.self.inside c.self.invariant c.args.processor p c.index.result.now c.in-Some.source at is c.in-Some.is within in
    takes-first c.self.inside.flow c.self.inside.names.items c.self.inside.taken.items c.self.inside.too_large p.kind place c.args.self.now name
    c.self.view_is c.self.invariant.distinct named left (sym named ∙ first)
