-- Fragments, and where they stand among files.
use Rattle.std.specs.Prelude.{◌≡◌, ℕ, zero, suc, ◌+◌, Bool, true, false, List, [], ◌∷◌, map, Option, Some, None, Result, IfOk, if◌then◌else◌}
use Rattle.std.specs.declared.cmp.Ordering.{Ordering}
use Rattle.std.specs.BTreeMap.{BTreeMap, get_by}
use Rattle.std.specs.BTreeSet.{BTreeSet, contains}
use Rattle.std.specs.Cmp.Lexicographic.{slice_cmp}
use Rattle.std.specs.Option.{option_map, option_or}
use Rattle.std.specs.Ordering.{is_eq, nat_cmp, ordering_then}
use Rattle.machine_model.specs.Due.{numbers_of}
use Rattle.machine_model.specs.Fragments.{fragment_seen}
use Rattle.machine_model.specs.Taking.{fragment_of, fragment_at, fragments_from, whole_of}
use Rattle.machine_model.specs.View.{FileView}
use Rattle.machine_model.specs.declared.fragment.Whole.{Whole}
use Rattle.machine_model.specs.declared.fragment.Fragment.{Fragment as Part}
use Rattle.flow_queue.specs.declared.queue.wholes.Candidate.{Candidate}
use Rattle.flow_queue.specs.Picking.{Picks}
use Rattle.flow_queue.specs.Queue.{held_view}

-- ---- files whose fragments are read

abbrev pub candidate_views : List Candidate → List FileView
candidate_views candidates = map (λ candidate. held_view candidate.held.now) candidates

abbrev pub HasItsFragment : Candidate → Type 0
HasItsFragment candidate = option_map fragment_seen candidate.fragment ≡ fragment_of candidate.held.now.file.attributes

-- ---- the numbers of the first file of each fragment

abbrev pub whole_cmp : Whole → Whole → Ordering
whole_cmp one other =
    ordering_then (slice_cmp nat_cmp one.identifier.now other.identifier.now) (nat_cmp one.count other.count)

abbrev pub part_cmp : Part → Part → Ordering
part_cmp one other = ordering_then (whole_cmp one.whole other.whole) (nat_cmp one.index other.index)

abbrev pub part_number : Part → BTreeMap Part ℕ → Option ℕ
part_number part numbers = get_by (part_cmp part) numbers

abbrev pub AreFirst : BTreeMap Part ℕ → List FileView → Type 0
AreFirst numbers files = (part : Part) → part_number part numbers
    ≡ option_map (λ file. file.number) (fragment_at (fragment_seen part) part.index files)

-- the number is noted for a part that had none
abbrev pub IsNoted : Part → ℕ → BTreeMap Part ℕ → BTreeMap Part ℕ → Type 0
IsNoted noted number before after = (part : Part) → part_number part after
    ≡ option_or (part_number part before) (if is_eq (part_cmp noted part) then Some number else None)

-- ---- wholes

abbrev pub added : Option ℕ → Option (List ℕ) → Option (List ℕ)
added (Some number) (Some numbers) = Some (number ∷ numbers)
added _ _ = None

-- the numbers of so many parts from a place on, if they are all there
abbrev pub part_numbers_from : BTreeMap Part ℕ → Whole → (place left : ℕ) → Option (List ℕ)
part_numbers_from numbers whole place zero = Some []
part_numbers_from numbers whole place (suc left) =
    added (part_number (record { whole = whole; index = place + 1 }) numbers)
    (part_numbers_from numbers whole (place + 1) left)

-- the files of a whole
abbrev pub files_of_whole : Whole → List FileView → Option (List FileView)
files_of_whole whole files =
    fragments_from (record { identifier = whole.identifier.now; index = 0; count = whole.count }) 1 whole.count files

-- what a file is picked with
abbrev pub whole_at : Candidate → List FileView → Option (List FileView)
whole_at candidate files =
    whole_of files (held_view candidate.held.now) (fragment_of candidate.held.now.file.attributes)

-- none of these is all there
abbrev pub AreMissing : BTreeSet Whole → List FileView → Type 0
AreMissing wholes files = (whole : Whole) → contains whole_cmp wholes whole ≡ true →
    files_of_whole whole files ≡ None

-- what a file gives, among any files of which these are the numbers
abbrev pub IsTry : {E : Type 0} → Candidate → BTreeMap Part ℕ → (before after : BTreeSet Whole) →
    Result Bool E → List ℕ → Type 0
IsTry candidate numbers before after result list = (files : List FileView) → AreFirst numbers files →
    AreMissing before files
    → Picks (option_map numbers_of (whole_at candidate files)) result list
    × IfOk result (λ answer. answer ≡ false → AreMissing after files)
