-- What a session ends with, and what holds of every outcome.
use Rattle.std.specs.Prelude.{◌≡◌, ℕ, ◌==◌, ◌+◌, ◌<◌, ◌≤◌, ◌&&◌, Bool, true, false, not, List, [], ◌∷◌, length, take, drop, unwrap_or, slice_get, slice_index, sum_by, codes, bytes_eq, filter_map, All, Option, None, Some, IfSome, if◌then◌else◌}
use Rattle.std.specs.List.{IsDistinct}
use Rattle.std.specs.FinMap.{entries, contains_key}
use Rattle.flowfile_record.specs.Attributes.{AttributeMap, IsWithinLimits, encoded_size}
use Rattle.flowfile_record.specs.declared.TheConstants.{CONTENT_MAX}
use Rattle.flowfile_record.specs.declared.attributes.TheConstants.{ATTRIBUTES_MAX}
use Rattle.flowfile_record.specs.declared.limits.TheConstants.{FILES_MAX, TAKEN_MAX, SESSION_ATTRIBUTES_MAX, FILENAME_SIZE}
use Rattle.flowfile_record.specs.declared.worked.Body.{Body}
use Rattle.flowfile_record.specs.declared.worked.Body.TheVariants as body
use Rattle.flowfile_record.specs.declared.worked.End.{End}
use Rattle.flowfile_record.specs.declared.worked.End.TheVariants.{To, Back, Removed}
use Rattle.flowfile_record.specs.declared.worked.Origin.{Origin}
use Rattle.flowfile_record.specs.declared.worked.Origin.TheVariants.{Taken, Forked, Part, Cloned, Joined}
use Rattle.flowfile_record.specs.declared.worked.Outcome.{Outcome}
use Rattle.flowfile_record.specs.declared.worked.Worked.{Worked}

-- ---- words

-- whether the session made the file
abbrev pub is_made : Origin → Bool
is_made (Taken place) = false
is_made _ = true

-- the places that an origin names as parents
abbrev pub parents_of : Origin → List ℕ
parents_of (Forked parent) = parent ∷ []
parents_of (Part parent) = parent ∷ []
parents_of (Cloned parent) = parent ∷ []
parents_of (Joined parents) = parents
parents_of _ = []

-- the content of a body, over the contents that were taken
abbrev pub content_of : List (List ℕ) → Body → List ℕ
content_of taken (body.Whole of) = unwrap_or (slice_get taken of) []
content_of taken (body.Part of offset size) = take size (drop offset (unwrap_or (slice_get taken of) []))
content_of taken (body.New bytes) = bytes

-- the bytes that the session wrote, where the content of a body is new
abbrev pub written_in : Body → Option (List ℕ)
written_in (body.New bytes) = Some bytes
written_in _ = None

-- the contents that it wrote
abbrev pub written_by : Outcome → List (List ℕ)
written_by outcome = filter_map (λ file. written_in file.body) outcome.files

abbrev pub same_pairs : List (List ℕ × List ℕ) → List (List ℕ × List ℕ) → Bool
same_pairs [] [] = true
same_pairs (pair ∷ pairs) (other ∷ others) =
    bytes_eq pair.0 other.0 && bytes_eq pair.1 other.1 && same_pairs pairs others
same_pairs _ _ = false

abbrev pub same_attributes : AttributeMap → AttributeMap → Bool
same_attributes a b = same_pairs (entries a) (entries b)

-- what a made file without a `filename` counts for the one that it is given later
abbrev pub filename_to_come : Origin → AttributeMap → ℕ
filename_to_come origin attributes =
    if is_made origin && not (contains_key attributes (codes "filename")) then FILENAME_SIZE else 0

-- ---- what holds of each file of an outcome, whose session has so many relationships and took contents of these sizes

-- A body is all or a part of a taken content, or bytes that a content may have.
abbrev pub IsBodyOver : (sizes : List ℕ) → Body → Type 0
IsBodyOver sizes (body.Whole of) = of < length sizes
IsBodyOver sizes (body.Part of offset size) = (of < length sizes) × (offset + size ≤ slice_index sizes of)
IsBodyOver sizes (body.New bytes) = length bytes ≤ CONTENT_MAX

-- A made file goes to a relationship, or it isn't in the outcome.
abbrev pub IsEndOf : (relationships : ℕ) → Origin → End → Type 0
IsEndOf relationships origin (To relationship) = relationship < relationships
IsEndOf relationships origin Back = is_made origin ≡ false
IsEndOf relationships origin Removed = is_made origin ≡ false

-- A joined file names one parent or more, each once.
abbrev pub NamesEachOnce : Origin → Type 0
NamesEachOnce (Joined parents) = (0 < length parents) × IsDistinct (λ one other. one == other) parents
NamesEachOnce _ = Unit {0}

pub record IsWorked (relationships : ℕ) (sizes : List ℕ) (file : Worked) : Type 0 where
  pub names : NamesEachOnce file.origin
  pub body : IsBodyOver sizes file.body
  pub ends : IsEndOf relationships file.origin file.«end»
  pub routed : IfSome file.routed (λ relationship. relationship < relationships)
  pub attributes : IsWithinLimits file.attributes
  pub named : encoded_size file.attributes + filename_to_come file.origin file.attributes ≤ ATTRIBUTES_MAX

-- ---- what holds of an outcome as a whole

-- a taken file stands at its place, and a made one behind all taken ones
abbrev pub StandsInTurn : (place count : ℕ) → Origin → Type 0
StandsInTurn place count (Taken of) = (of ≡ place) × (place < count)
StandsInTurn place count _ = count ≤ place

-- the files of an outcome from a place on: what is left of so many taken ones, then made ones behind their parents
abbrev pub AreInTurn : (place count : ℕ) → List Worked → Type 0
AreInTurn place count [] = count ≤ place
AreInTurn place count (file ∷ files) =
    StandsInTurn place count file.origin × All (λ parent. parent < place) (parents_of file.origin)
    × AreInTurn (place + 1) count files

-- The outcome of a session with so many relationships, which took files with contents of these sizes: all taken files
-- at their places, then made ones behind their parents, each within the limits of a flow file and all together within
-- those of a session.
pub record IsOutcome (relationships : ℕ) (sizes : List ℕ) (outcome : Outcome) : Type 0 where
  pub taken : length sizes ≤ TAKEN_MAX
  pub count : length outcome.files ≤ FILES_MAX
  pub in_turn : AreInTurn 0 (length sizes) outcome.files
  pub each : All (IsWorked relationships sizes) outcome.files
  pub attributes : sum_by (λ file. encoded_size file.attributes) outcome.files ≤ SESSION_ATTRIBUTES_MAX
  pub sent : IfSome outcome.sent (λ sent. sent.place < length outcome.files)
