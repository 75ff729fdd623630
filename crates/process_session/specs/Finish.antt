-- The outcome of a session: what it leaves out, and whom an origin names then.
use Rattle.std.specs.Prelude.{ℕ, ◌+◌, ◌==◌, ◌&&◌, Bool, true, false, not, List, [], ◌∷◌, ◌++◌, filter, Option, None, Some, unwrap_or, slice_get, if◌then◌else◌}
use Rattle.std.specs.List.{flat_map}
use Rattle.std.specs.Option.{option_map}
use Rattle.flowfile_record.specs.declared.worked.End.{End}
use Rattle.flowfile_record.specs.declared.worked.End.TheVariants.{Removed}
use Rattle.flowfile_record.specs.declared.worked.Origin.{Origin}
use Rattle.flowfile_record.specs.declared.worked.Origin.TheVariants.{Created, Forked, Part, Cloned, Joined}
use Rattle.flowfile_record.specs.declared.worked.Outcome.{Outcome}
use Rattle.flowfile_record.specs.declared.worked.Sent.{Sent}
use Rattle.flowfile_record.specs.declared.worked.Worked.{Worked}
use Rattle.process_session.specs.declared.file.File.{File}
use Rattle.process_session.specs.Bench.{Bench}
use Rattle.flowfile_record.specs.Outcome.{is_made, parents_of}

abbrev pub ends_removed : Option End → Bool
ends_removed (Some Removed) = true
ends_removed _ = false

-- a made file that is removed isn't in the outcome
abbrev pub is_left_out : File → Bool
is_left_out file = is_made file.origin && ends_removed file.«end»

-- each once, at its first place
abbrev pub places_once : List ℕ → List ℕ
places_once [] = []
places_once (place ∷ places) = place ∷ filter (λ other. not (other == place)) (places_once places)

-- the places of the outcome that stand for these places of the session
abbrev pub standing_for : List (List ℕ) → List ℕ → List ℕ
standing_for stand places = places_once (flat_map (λ place. unwrap_or (slice_get stand place) []) places)

-- for each of these files, behind what is known of the ones before, the places of the outcome that stand for it: its
-- own, and for a file that is left out those that stand for its parents
unfoldable pub standing_from : List (List ℕ) → ℕ → List File → List (List ℕ)
standing_from stand next [] = stand
standing_from stand next (file ∷ files) =
    if is_left_out file then standing_from (stand ++ standing_for stand (parents_of file.origin) ∷ []) next files
    else standing_from (stand ++ (next ∷ []) ∷ []) (next + 1) files

abbrev pub standing : Bench → List (List ℕ)
standing bench = standing_from [] 0 bench.files

-- the origin of a child of which these places are left
abbrev pub child_of : (ℕ → Origin) → List ℕ → Origin
child_of one [] = Created
child_of one (parent ∷ []) = one parent
child_of one (parent ∷ other ∷ more) = Joined (parent ∷ other ∷ more)

abbrev pub joined_of : List ℕ → Origin
joined_of [] = Created
joined_of (parent ∷ more) = Joined (parent ∷ more)

abbrev pub origin_in : List (List ℕ) → Origin → Origin
origin_in stand (Forked parent) = child_of Forked (standing_for stand (parent ∷ []))
origin_in stand (Part of) = child_of Part (standing_for stand (of ∷ []))
origin_in stand (Cloned of) = child_of Cloned (standing_for stand (of ∷ []))
origin_in stand (Joined parents) = joined_of (standing_for stand parents)
origin_in stand origin = origin

-- a file with another origin
abbrev pub worked_with : Origin → File → Worked
worked_with origin file =
    record {
      origin = origin;
      attributes = file.attributes;
      body = file.body;
      «end» = unwrap_or file.«end» Removed;
      written = file.written;
      penalised = file.penalised;
      routed = file.routed;
    }

abbrev pub worked_of : List (List ℕ) → File → Worked
worked_of stand file = worked_with (origin_in stand file.origin) file

unfoldable pub kept_files : List (List ℕ) → List File → List Worked
kept_files stand [] = []
kept_files stand (file ∷ files) =
    if is_left_out file then kept_files stand files else worked_of stand file ∷ kept_files stand files

-- the first of the places that stand for the file at a place
abbrev pub first_of_places : List ℕ → Option ℕ
first_of_places [] = None
first_of_places (place ∷ more) = Some place

-- the place in the outcome of a file that isn't left out
abbrev pub place_if_kept : Option Bool → List ℕ → Option ℕ
place_if_kept (Some false) places = first_of_places places
place_if_kept _ places = None

abbrev pub place_in : List (List ℕ) → List File → ℕ → Option ℕ
place_in stand files place =
    place_if_kept (option_map is_left_out (slice_get files place)) (unwrap_or (slice_get stand place) [])

-- a put isn't made where its file is left out
unfoldable pub sent_in : Bench → Option Sent → Option Sent
sent_in bench None = None
sent_in bench (Some sent) =
    let place = place_in (standing bench) bench.files sent.place in
    option_map (λ at. record { place = at; name = sent.name }) place

unfoldable pub outcome_of : Bench → Outcome
outcome_of bench = record { files = kept_files (standing bench) bench.files; sent = sent_in bench bench.sent }
