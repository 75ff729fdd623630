-- The sources of a listing, by the places of their processors.
use Rattle.std.proofs.Common.{◌≡◌, ◌⊎◌, inl, inr, ℕ, ◌<◌, ◌≤◌, Bool, true, false, List, [], ◌∷◌, length, replicate, refl, sym, ap, subst, ◌∙◌, arith}
use Rattle.std.specs.Prelude.{Option, Some, None, All, find, is_some, nat_lt, option_and_then, option_map, slice_get, slice_set, unwrap_or}
use Rattle.std.specs.List.{slice_index_or}
use Rattle.std.proofs.lemmas.Bool.{ltb-false, ltb-true}
use Rattle.std.proofs.lemmas.List.{length-map, length-set}
use Rattle.std.proofs.lemmas.Option.{slice_get_cases, slice_get_past, slice_get_within, slice_get-get_or}
use Rattle.machine_model.specs.declared.flow.Flow.{Flow}
use Rattle.machine_model.specs.declared.flow.Processor.{Processor}
use Rattle.machine_model.specs.declared.kind.Kind.{Kind}
use Rattle.machine_model.specs.declared.pattern.Pattern.{Pattern}
use Rattle.machine_model.specs.Acting.{passes}
use Rattle.engine_queues.specs.declared.listing.Source.{Source}
use Rattle.engine_queues.specs.declared.listing.Listing.TheInside.{Inside}
use Rattle.engine_queues.specs.Listing.{Left, AreDistinct, TakesFirst, TakesFrom, filter_of, first_passed, left_of, names_left, with_mark}
use Rattle.engine_queues.specs.ListingInside.{HasMarks, IsFirstOpen, IsSoundListing, StillSuits, Suits}
use Rattle.engine_queues.proofs.Left.{found-first, left-taken}

-- the first so many processors have their sources
pub record AreSourcesSoFar (processors : List Processor) (names : List (List ℕ)) (taken : List Bool) (index : ℕ) (sources : List (Option Source)) : Type 0 where
  pub marks : length taken ≡ length names
  pub count : length sources ≡ index
  pub each : (place : ℕ) (processor : Processor) (source : Option Source) → slice_get processors place ≡ Some processor → slice_get sources place ≡ Some source
      → Suits (filter_of processor.kind) names taken source

-- a source without which a processor takes nothing, and one that gives its first name
pub first-none : (kind : Kind) (names : List (List ℕ)) (taken : List Bool) → Suits (filter_of kind) names taken None → None ≡ first_passed kind (left_of names taken)
first-none kind names taken suits = by_filter (filter_of kind) suits
  where
    by_filter : (o : Option (Option Pattern)) → Suits o names taken None → None ≡ option_and_then (λ filter. find (passes filter) (left_of names taken)) o
    by_filter None suits = refl
    by_filter (Some filter) suits = absurd suits

pub first-some : (kind : Kind) (names : List (List ℕ)) (taken : List Bool) (source : Source) → length taken ≡ length names → Suits (filter_of kind) names taken (Some source)
    → slice_get names source.first ≡ first_passed kind (left_of names taken)
first-some kind names taken source long suits = by_filter (filter_of kind) suits
  where
    by_filter : (o : Option (Option Pattern)) → Suits o names taken (Some source) → slice_get names source.first ≡ option_and_then (λ filter. find (passes filter) (left_of names taken)) o
    by_filter None suits = absurd suits
    by_filter (Some filter) suits =
        let P : List Bool → Type 0 = λ passing. IsFirstOpen taken passing 0 source.first in
        sym (found-first (passes filter) names taken source.first long (subst P suits.passing suits.first))

-- the source of a processor
pub source-at : (listing : Inside) → IsSoundListing listing → (place : ℕ) (processor : Processor) (source d : Option Source)
    → slice_get listing.flow.processors place ≡ Some processor → source ≡ slice_index_or listing.sources.items place d
    → Suits (filter_of processor.kind) listing.names.items listing.taken.items source
source-at listing sound place processor source d there is =
    let within = slice_get_within listing.flow.processors place processor there in
    let at : slice_get listing.sources.items place ≡ Some (slice_index_or listing.sources.items place d) = slice_get-get_or listing.sources.items place d (omega (arith, within, sound.count)) in
    sound.each place processor source there (at ∙ ap (λ s. Some s) (sym is))

has-marks : (filter : Option (Option Pattern)) (names : List (List ℕ)) (taken : List Bool) (source : Option Source) → length taken ≡ length names → Suits filter names taken source → HasMarks (length taken) source
has-marks filter names taken None long suits = tt
has-marks None names taken (Some source) long suits = absurd suits
has-marks (Some filter) names taken (Some source) long suits = ap length suits.passing ∙ length-map names (passes filter) ∙ sym long

pub all-marks : (listing : Inside) → IsSoundListing listing → All (HasMarks (length listing.taken.items)) listing.sources.items
all-marks listing sound k d within = by_processor (slice_get_cases listing.flow.processors k).1
  where
    by_processor : ((x : Processor) × (k < length listing.flow.processors) × (slice_get listing.flow.processors k ≡ Some x) × (slice_index_or listing.flow.processors k x ≡ x))
        ⊎ ((length listing.flow.processors ≤ k) × (slice_get listing.flow.processors k ≡ None)) → HasMarks (length listing.taken.items) (slice_index_or listing.sources.items k d)
    by_processor (inl at) =
        has-marks (filter_of at.0.kind) listing.names.items listing.taken.items (slice_index_or listing.sources.items k d) sound.marks
        (source-at listing sound k at.0 (slice_index_or listing.sources.items k d) d at.2 refl)
    by_processor (inr past) = absurd (omega (arith, within, sound.count, past.0))

-- ---- what is left after a first name is taken

pub no-first : (listing : Inside) → IsSoundListing listing → (place : ℕ) (processor : Processor) (source : Option Source)
    → slice_get listing.flow.processors place ≡ Some processor → source ≡ slice_index_or listing.sources.items place source → ((s : Source) → source ≡ Some s → ⊥)
    → None ≡ first_passed processor.kind (left_of listing.names.items listing.taken.items)
no-first listing sound place processor source there is none = by_source source refl
  where
    by_source : (s : Option Source) → source ≡ s → None ≡ first_passed processor.kind (left_of listing.names.items listing.taken.items)
    by_source (Some s) e = absurd (none s e)
    by_source None e =
        let P : Option Source → Type 0 = Suits (filter_of processor.kind) listing.names.items listing.taken.items in
        first-none processor.kind listing.names.items listing.taken.items (subst P e (source-at listing sound place processor source source there is))

pub a-first : (listing : Inside) → IsSoundListing listing → (place : ℕ) (processor : Processor) (source : Option Source) (s : Source)
    → slice_get listing.flow.processors place ≡ Some processor → source ≡ slice_index_or listing.sources.items place source → source ≡ Some s
    → slice_get listing.names.items s.first ≡ first_passed processor.kind (left_of listing.names.items listing.taken.items)
a-first listing sound place processor source s there is e =
    let P : Option Source → Type 0 = Suits (filter_of processor.kind) listing.names.items listing.taken.items in
    first-some processor.kind listing.names.items listing.taken.items s sound.marks (subst P e (source-at listing sound place processor source source there is))

-- the first name of a source is left
first-left : (filter : Option (Option Pattern)) (names : List (List ℕ)) (taken : List Bool) (s : Source) → length taken ≡ length names → Suits filter names taken (Some s) → s.first < length names
    → slice_get taken s.first ≡ Some false
first-left None names taken s long suits within = absurd suits
first-left (Some filter) names taken s long suits within = (suits.first.open_there (omega (arith, within, long))).left

pub left-at : (listing : Inside) → IsSoundListing listing → (place : ℕ) (processor : Processor) (source : Option Source) (s : Source)
    → slice_get listing.flow.processors place ≡ Some processor → source ≡ slice_index_or listing.sources.items place source → source ≡ Some s → s.first < length listing.names.items
    → slice_get listing.taken.items s.first ≡ Some false
left-at listing sound place processor source s there is e within =
    let P : Option Source → Type 0 = Suits (filter_of processor.kind) listing.names.items listing.taken.items in
    first-left (filter_of processor.kind) listing.names.items listing.taken.items s sound.marks (subst P e (source-at listing sound place processor source source there is)) within

-- the fields with a name taken and each source moved past it, or given back and each moved back to it, are sound
pub still-sound : (mark : Bool) (listing after : Inside) (place : ℕ) → IsSoundListing listing → after.flow ≡ listing.flow → after.names ≡ listing.names → after.too_large ≡ listing.too_large
    → after.taken.items ≡ slice_set listing.taken.items place mark → length after.sources.items ≡ length listing.sources.items
    → ((k : ℕ) (was now : Option Source) → slice_get listing.sources.items k ≡ Some was → slice_get after.sources.items k ≡ Some now → StillSuits mark after.taken.items place was now)
    → IsSoundListing after
still-sound mark listing after place sound flow names large taken count moved = record {
  few = let lengths : length after.names.items ≡ length listing.names.items = ap (λ v. length v.items) names in omega (arith, lengths, large, sound.few);
  marks = ap length taken ∙ length-set listing.taken.items place mark ∙ sound.marks ∙ ap (λ v. length v.items) (sym names);
  distinct = let P : List (List ℕ) → Type 0 = AreDistinct in subst P (ap (λ v. v.items) (sym names)) sound.distinct;
  count = count ∙ sound.count ∙ ap (λ f. length f.processors) (sym flow);
  each = each;
}
  where
    each : (k : ℕ) (processor : Processor) (source : Option Source) → slice_get after.flow.processors k ≡ Some processor → slice_get after.sources.items k ≡ Some source
        → Suits (filter_of processor.kind) after.names.items after.taken.items source
    each k processor source there now = by_was (slice_get_cases listing.sources.items k).1
      where
        here : slice_get listing.flow.processors k ≡ Some processor
        here = ap (λ f. slice_get f.processors k) (sym flow) ∙ there

        by_was : ((was : Option Source) × (k < length listing.sources.items) × (slice_get listing.sources.items k ≡ Some was) × (slice_index_or listing.sources.items k was ≡ was))
            ⊎ ((length listing.sources.items ≤ k) × (slice_get listing.sources.items k ≡ None)) → Suits (filter_of processor.kind) after.names.items after.taken.items source
        by_was (inl was) =
            let long : length listing.taken.items ≡ length after.names.items = sound.marks ∙ ap (λ v. length v.items) (sym names) in
            let suits : Suits (filter_of processor.kind) after.names.items listing.taken.items was.0 =
            let P : List (List ℕ) → Type 0 = λ ns. Suits (filter_of processor.kind) ns listing.taken.items was.0 in subst P (ap (λ v. v.items) (sym names)) (sound.each k processor was.0 here was.2) in
            moved k was.0 source was.2 now (filter_of processor.kind) after.names.items listing.taken.items long taken suits
        by_was (inr past) = absurd (omega (arith, slice_get_within listing.flow.processors k processor here, sound.count, past.0))

-- all names are left where none is taken
pub all-left : (names : List (List ℕ)) → left_of names (replicate (length names) false) ≡ names
all-left [] = refl
all-left (name ∷ names) = ap (λ rest. name ∷ rest) (all-left names)

-- ---- what taking a first name answers

pub takes-none : (now : Left) (kind : Kind) → None ≡ first_passed kind (names_left now) → TakesFrom kind None now now
takes-none now kind e = (sym e, refl)

-- the listing of these fields
abbrev pub listing_of : Flow → List (List ℕ) → List Bool → (too_large : ℕ) → Left
listing_of flow listed taken too_large = record { flow = flow; listed = listed; taken = taken; too_large = too_large }

pub takes-first : (flow : Flow) (listed : List (List ℕ)) (taken : List Bool) (too_large : ℕ) (kind : Kind) (place : ℕ) (now : Left) (name : List ℕ)
    → listing_of flow listed taken too_large ≡ now → AreDistinct listed → slice_get listed place ≡ Some name → slice_get taken place ≡ Some false
    → Some name ≡ first_passed kind (left_of listed taken) → TakesFirst kind place now (with_mark true place (listing_of flow listed taken too_large))
takes-first flow listed taken too_large kind place now name view distinct there left first =
    let after = with_mark true place (listing_of flow listed taken too_large) in
    subst (λ (old : Left). TakesFirst kind place old after) view (record {
      name = name;
      first = sym first;
      there = there;
      was_left = left;
      new_is = refl;
      others = left-taken name listed taken place distinct there left;
    })

-- ---- an element by its place

pub looked-up : (names : List (List ℕ)) (place : ℕ) (o : Option (List ℕ)) → is_some o ≡ nat_lt place (length names) → ((d : List ℕ) → unwrap_or o d ≡ slice_index_or names place d)
    → o ≡ slice_get names place
looked-up names place None is at = sym (slice_get_past names place (ltb-false place (length names) (sym is)))
looked-up names place (Some name) is at =
    ap (λ n. Some n) (at name) ∙ sym (slice_get-get_or names place name (ltb-true place (length names) (sym is)))

pub is-mapped : {X Y : Type 0} (f : X → Y) (o : Option X) → is_some (option_map f o) ≡ is_some o
is-mapped f None = refl
is-mapped f (Some x) = refl
