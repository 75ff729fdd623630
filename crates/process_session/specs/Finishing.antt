-- What the calls below `finish` keep of the places that stand for files.
use Rattle.std.specs.Prelude.{◌≡◌, ℕ, ◌+◌, ◌<◌, ◌≤◌, ◌==◌, ◌||◌, Bool, false, All, List, [], ◌∷◌, ◌++◌, length, Option, None, Some, unwrap_or, slice_get, slice_index, vec_capacity, if◌then◌else◌}
use Rattle.flowfile_record.specs.declared.worked.Origin.{Origin}
use Rattle.flowfile_record.specs.declared.worked.Origin.TheVariants.{Forked, Part, Cloned, Joined}
use Rattle.flowfile_record.specs.declared.worked.Sent.{Sent}
use Rattle.flowfile_record.specs.declared.worked.Worked.{Worked}
use Rattle.process_session.specs.declared.file.File.{File}
use Rattle.process_session.specs.declared.session.finish.Plan.{Plan}
use Rattle.process_session.specs.declared.session.finish.standing.Stand.{Stand}
use Rattle.process_session.specs.declared.session.finish.standing.Stand.TheVariants.{Kept, Gone}
use Rattle.process_session.specs.Finish.{is_left_out, standing_for, standing_from, child_of, joined_of, origin_in, place_in, kept_files}
use Rattle.flowfile_record.specs.Outcome.{parents_of}

-- the places that stand for a file
abbrev pub places_of : Stand → List ℕ
places_of (Kept place) = place ∷ []
places_of (Gone places) = places.items

-- they are places of a list that is so long
abbrev pub IsInside : ℕ → Stand → Type 0
IsInside size stand = All (λ place. place < size) (places_of stand)

abbrev pub stand_at : List (List ℕ) → ℕ → List ℕ
stand_at stand place = unwrap_or (slice_get stand place) []

abbrev pub lists_place : List ℕ → ℕ → Bool
lists_place [] place = false
lists_place (other ∷ places) place = (other == place) || lists_place places place

-- one more place, where it isn't there
abbrev pub with_once : List ℕ → ℕ → List ℕ
with_once left place = if lists_place left place then left else left ++ place ∷ []

abbrev pub with_each : List ℕ → List ℕ → List ℕ
with_each left [] = left
with_each left (place ∷ places) = with_each (with_once left place) places

-- every mark is of a round before this one, or of it too
unfoldable pub AreMarkedBelow : List ℕ → ℕ → Type 0
AreMarkedBelow met round = (place : ℕ) → place < length met → slice_index met place < round

unfoldable pub AreMarkedUpto : List ℕ → ℕ → Type 0
AreMarkedUpto met round = (place : ℕ) → place < length met → slice_index met place ≤ round

-- the places that stand for a file, behind what is known of the ones before
abbrev pub stand_for : List (List ℕ) → ℕ → File → List ℕ
stand_for stand next file = if is_left_out file then standing_for stand (parents_of file.origin) else next ∷ []

-- the next place of the outcome
abbrev pub next_place : ℕ → File → ℕ
next_place next file = if is_left_out file then next else next + 1

-- the places that are marked in a round are those that are left, and no mark is of a later round
pub record IsMarked (met : List ℕ) (round : ℕ) (left : List ℕ) : Type 0 where
  pub marked : (place : ℕ) → place < length met → (slice_index met place == round) ≡ lists_place left place
  pub upto : (place : ℕ) → place < length met → slice_index met place ≤ round
  pub inside : All (λ place. place < length met) left

abbrev pub place_of_sent : List (List ℕ) → List File → Option Sent → Option ℕ
place_of_sent stand files None = None
place_of_sent stand files (Some sent) = place_in stand files sent.place

abbrev pub sent_at : Option ℕ → Option Sent → Option Sent
sent_at (Some place) (Some sent) = Some (record { place = place; name = sent.name })
sent_at _ _ = None

abbrev pub only_one : List ℕ → Option ℕ
only_one [] = None
only_one (place ∷ []) = Some place
only_one (place ∷ other ∷ more) = None

-- an origin, of whose named parents these places are left
abbrev pub origin_with : Origin → List ℕ → Origin
origin_with (Forked parent) left = child_of Forked left
origin_with (Part of) left = child_of Part left
origin_with (Cloned of) left = child_of Cloned left
origin_with (Joined parents) left = joined_of left
origin_with origin left = origin

unfoldable pub kept_origins : List (List ℕ) → List File → List Origin
kept_origins stand [] = []
kept_origins stand (file ∷ files) =
    if is_left_out file then kept_origins stand files else origin_in stand file.origin ∷ kept_origins stand files

-- a file is kept with the first of these origins, or left out: what is kept and the origins that are left are those
-- of the files behind it
pub record KeepsFile (file : File) (kept kept' : List Worked) (origins origins' : List Origin) (stand : List (List ℕ))
    (more : List File) : Type 0 where
  pub rest : origins' ≡ kept_origins stand more
  pub files : kept' ++ kept_files stand more ≡ kept ++ kept_files stand (file ∷ more)

-- what an outcome of these files needs, and room for as many
pub record IsPlanOf (files : List File) (put : Option Sent) (plan : Plan) : Type 0 where
  pub origins : plan.origins.items ≡ kept_origins (standing_from [] 0 files) files
  pub empty : plan.room.items ≡ []
  pub room : length plan.origins.items ≤ vec_capacity plan.room
  pub sent : plan.sent ≡ place_of_sent (standing_from [] 0 files) files put
