-- The names of an inbox that are left for the processors of a flow.
use Rattle.std.specs.Prelude.{◌≡◌, ◌≢◌, ℕ, Bool, true, false, List, [], ◌∷◌, Option, None, Some, find, option_and_then, slice_get, slice_set}
use Rattle.std.specs.List.{AllPairs}
use Rattle.machine_model.specs.declared.flow.Flow.{Flow}
use Rattle.machine_model.specs.declared.kind.Kind.{Kind}
use Rattle.machine_model.specs.declared.kind.Kind.TheVariants.{GetFile}
use Rattle.machine_model.specs.declared.pattern.Pattern.{Pattern}
use Rattle.machine_model.specs.Acting.{passes}
use Rattle.machine_model.specs.Stepping.{without_name}

-- What is left of an inbox for the processors of this flow: the names that were listed, in their order, and which of
-- them are taken; and how many others it has, whose files are too large.
pub record Left : Type 0 where
  pub flow : Flow
  pub listed : List (List ℕ)
  pub taken : List Bool
  pub too_large : ℕ

-- the names that aren't taken
abbrev pub left_of : List (List ℕ) → (taken : List Bool) → List (List ℕ)
left_of [] taken = []
left_of (name ∷ names) [] = []
left_of (name ∷ names) (true ∷ taken) = left_of names taken
left_of (name ∷ names) (false ∷ taken) = name ∷ left_of names taken

abbrev pub names_left : Left → List (List ℕ)
names_left listing = left_of listing.listed listing.taken

-- the listing, where the name at a place is taken, or is left
abbrev pub with_mark : (is_taken : Bool) → (place : ℕ) → Left → Left
with_mark is_taken place listing = record listing { taken = slice_set listing.taken place is_taken }

-- each name stands once
abbrev pub AreDistinct : List (List ℕ) → Type 0
AreDistinct names = AllPairs (λ one other. one ≢ other) names

-- a GetFile's filter
abbrev pub filter_of : Kind → Option (Option Pattern)
filter_of (GetFile filter) = Some filter
filter_of _ = None

-- the name that a processor takes: for a GetFile the first that its filter passes
abbrev pub first_passed : Kind → List (List ℕ) → Option (List ℕ)
first_passed kind names = option_and_then (λ filter. find (passes filter) names) (filter_of kind)

-- What is left once a processor took its first name: that was at this place.
pub record TakesFirst (kind : Kind) (place : ℕ) (old new : Left) : Type 0 where
  pub name : List ℕ
  pub first : first_passed kind (names_left old) ≡ Some name
  pub there : slice_get old.listed place ≡ Some name
  pub was_left : slice_get old.taken place ≡ Some false
  pub new_is : new ≡ with_mark true place old
  pub others : names_left new ≡ without_name (names_left old) name

-- a processor takes the first name that passes, if there is one, and its place is answered
abbrev pub TakesFrom : Kind → (answer : Option ℕ) → (old new : Left) → Type 0
TakesFrom kind None old new = (first_passed kind (names_left old) ≡ None) × (new ≡ old)
TakesFrom kind (Some place) old new = TakesFirst kind place old new
