-- The fields of a listing, and what they stand for.
use Rattle.std.specs.Prelude.{◌≡◌, ℕ, ◌+◌, ◌^◌, ◌<◌, ◌≤◌, Bool, true, false, List, length, map, Option, None, Some, IfSome, slice_get, slice_set}
use Rattle.machine_model.specs.declared.flow.Processor.{Processor}
use Rattle.machine_model.specs.declared.pattern.Pattern.{Pattern}
use Rattle.machine_model.specs.Acting.{passes}
use Rattle.engine_queues.specs.declared.listing.Source.{Source}
use Rattle.engine_queues.specs.declared.listing.Listing.TheInside.{Inside}
use Rattle.engine_queues.specs.Listing.{Left, AreDistinct, filter_of}

-- the name at a place is left, and passes
pub record IsOpen (taken passing : List Bool) (place : ℕ) : Type 0 where
  pub left : slice_get taken place ≡ Some false
  pub passes : slice_get passing place ≡ Some true

-- the first place from one on at which a name is left and passes, or the end
pub record IsFirstOpen (taken passing : List Bool) (start place : ℕ) : Type 0 where
  pub within : place ≤ length taken
  pub before : (k : ℕ) → start ≤ k → k < place → IsOpen taken passing k → ⊥
  pub open_there : place < length taken → IsOpen taken passing place

-- which names a filter passes, and the first of these that is left
pub record IsSourceOf (filter : Option Pattern) (names : List (List ℕ)) (taken : List Bool) (source : Source) : Type 0
  where
    pub passing : source.passing.items ≡ map (passes filter) names
    pub first : IsFirstOpen taken source.passing.items 0 source.first

-- a GetFile has such a source, and another processor has none
abbrev pub Suits : Option (Option Pattern) → List (List ℕ) → List Bool → Option Source → Type 0
Suits (Some filter) names taken (Some source) = IsSourceOf filter names taken source
Suits (Some filter) names taken None = ⊥
Suits None names taken (Some source) = ⊥
Suits None names taken None = Unit {0}

-- what was a source before the name at a place was taken, or given back, is one afterwards
abbrev pub StillSuits : (is_taken : Bool) → (taken : List Bool) → (place : ℕ) → (before after : Option Source) →
    Type 0
StillSuits is_taken taken place before after =
    (filter : Option (Option Pattern)) (names : List (List ℕ)) (was : List Bool) → length was ≡ length names
    → taken ≡ slice_set was place is_taken → Suits filter names was before → Suits filter names taken after

-- a source has a mark for each name
abbrev pub HasMarks : (count : ℕ) → Option Source → Type 0
HasMarks count source = IfSome source (λ source. length source.passing.items ≡ count)

abbrev pub listing_in : Inside → Left
listing_in listing = record {
  flow = listing.flow;
  listed = listing.names.items;
  taken = listing.taken.items;
  too_large = listing.too_large;
}

-- What holds of the fields: a mark for each name, of which no two are the same, and a source for each processor. All
-- names of the inbox can be counted.
pub record IsSoundListing (listing : Inside) : Type 0 where
  pub few : length listing.names.items + listing.too_large < 2 ^ 64
  pub marks : length listing.taken.items ≡ length listing.names.items
  pub distinct : AreDistinct listing.names.items
  pub count : length listing.sources.items ≡ length listing.flow.processors
  pub each : (place : ℕ) (processor : Processor) (source : Option Source)
      → slice_get listing.flow.processors place ≡ Some processor
      → slice_get listing.sources.items place ≡ Some source
      → Suits (filter_of processor.kind) listing.names.items listing.taken.items source
