-- Which files a session takes of the eligible ones, by its processor's rule.
use Rattle.std.specs.Prelude.{ℕ, zero, suc, ◌+◌, ◌-◌, ◌==◌, ◌&&◌, ◌||◌, nat_lt, nat_le, Bool, false, List, [], ◌∷◌, length, find, Option, Some, None, option_map, option_and_then, slice_get, codes, bytes_eq, ℤ, pos, Result, Ok, if◌then◌else◌}
use Rattle.std.specs.FinMap.{get}
use Rattle.flowfile_record.specs.Attributes.{AttributeMap}
use Rattle.flowfile_record.specs.declared.TheConstants.{CONTENT_MAX}
use Rattle.flowfile_record.specs.declared.limits.TheConstants.{TAKEN_MAX}
use Rattle.expr_lang.specs.declared.error.EvalError.{EvalError}
use Rattle.expr_lang.specs.Value.{text, as_number}
use Rattle.machine_model.specs.declared.kind.TakeRule.{TakeRule}
use Rattle.machine_model.specs.declared.kind.TakeRule.TheVariants.{Source, One, Bin, Defragment}
use Rattle.machine_model.specs.View.{FileView}

-- The files from the first on, at most so many, as long as their contents fill no more than this room.
abbrev pub filling : (most room : ℕ) → List FileView → List FileView
filling most room [] = []
filling zero room (file ∷ files) = []
filling (suc most) room (file ∷ files) =
    if nat_le file.size room then file ∷ filling most (room - file.size) files else []

-- whether the file behind the first so many would pass the room
abbrev pub next_would_pass : (count room : ℕ) → List FileView → Bool
next_would_pass count room [] = false
next_would_pass zero room (file ∷ files) = nat_lt room file.size
next_would_pass (suc count) room (file ∷ files) = next_would_pass count (room - file.size) files

-- at least `min` of them, or as many as a content has room for
abbrev pub bin_of : (min max : ℕ) → List FileView → Option (List FileView)
bin_of min max files =
    let bin = filling max CONTENT_MAX files in
    if nat_lt 0 (length bin) && (nat_le min (length bin) || next_would_pass (length bin) CONTENT_MAX files)
    then Some bin else None

-- the number that a text is, where it is one from 1 on
abbrev pub positive : Result ℤ EvalError → Option ℕ
positive (Ok (pos (suc n))) = Some (n + 1)
positive _ = None

abbrev pub number_under : AttributeMap → List ℕ → Option ℕ
number_under attributes key = option_and_then (λ value. positive (as_number (text value))) (get attributes key)

-- which part of which whole a fragment is
pub record Fragment : Type 0 where
  pub identifier : List ℕ
  pub index : ℕ
  pub count : ℕ

abbrev pub within_count : Fragment → Option Fragment
within_count fragment =
    if nat_le fragment.index fragment.count && nat_le fragment.count TAKEN_MAX then Some fragment else None

abbrev pub fragment_of : AttributeMap → Option Fragment
fragment_of attributes =
    option_and_then (λ identifier.
    option_and_then (λ index.
    option_and_then (λ count. within_count (record { identifier = identifier; index = index; count = count }))
    (number_under attributes (codes "fragment.count")))
    (number_under attributes (codes "fragment.index")))
    (get attributes (codes "fragment.identifier"))

-- a fragment of the same whole at this index
abbrev pub is_fragment_at : Fragment → ℕ → Option Fragment → Bool
is_fragment_at fragment index None = false
is_fragment_at fragment index (Some other) =
    bytes_eq other.identifier fragment.identifier && (other.count == fragment.count) && (other.index == index)

abbrev pub fragment_at : Fragment → ℕ → List FileView → Option FileView
fragment_at fragment index files = find (λ file. is_fragment_at fragment index (fragment_of file.attributes)) files

-- all of the parts, or none
abbrev pub joined_option : Option FileView → Option (List FileView) → Option (List FileView)
joined_option (Some file) (Some files) = Some (file ∷ files)
joined_option _ _ = None

-- the first fragment of each index from here on, so many
abbrev pub fragments_from : Fragment → (index left : ℕ) → List FileView → Option (List FileView)
fragments_from fragment index zero files = Some []
fragments_from fragment index (suc left) files =
    joined_option (fragment_at fragment index files) (fragments_from fragment (index + 1) left files)

-- a file that is no fragment alone, a fragment with all others of its whole
abbrev pub whole_of : List FileView → FileView → Option Fragment → Option (List FileView)
whole_of files file None = Some (file ∷ [])
whole_of files file (Some fragment) = fragments_from fragment 1 fragment.count files

abbrev pub first_some : Option (List FileView) → Option (List FileView) → Option (List FileView)
first_some (Some found) other = Some found
first_some None other = other

-- what the first file of some gives that gives anything
abbrev pub first_whole : List FileView → List FileView → Option (List FileView)
first_whole files [] = None
first_whole files (file ∷ rest) =
    first_some (whole_of files file (fragment_of file.attributes)) (first_whole files rest)

-- the files that a session takes of the eligible ones, which stand in their order
abbrev pub picks : TakeRule → List FileView → Option (List FileView)
picks Source files = None
picks One files = option_map (λ file. file ∷ []) (slice_get files 0)
picks (Bin min max) files = bin_of min max files
picks Defragment files = first_whole files files
