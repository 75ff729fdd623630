-- Parts of a content as files of their own: the words that SplitText and SegmentContent share.
use Rattle.std.specs.Prelude.{ℕ, zero, suc, ◌+◌, ◌==◌, ◌&&◌, nat_lt, nat_le, Bool, false, List, [], ◌∷◌, ◌++◌, length, take, drop, Option, Some, None, option_map, option_and_then, unwrap_or, codes, decimal, if◌then◌else◌}
use Rattle.std.specs.FinMap.{get, insert}
use Rattle.flowfile_record.specs.Attributes.{AttributeMap, encoded_size}
use Rattle.flowfile_record.specs.declared.limits.TheConstants.{FILES_MAX, SESSION_ATTRIBUTES_MAX}
use Rattle.flowfile_record.specs.declared.worked.Body.TheVariants.{Part}
use Rattle.flowfile_record.specs.declared.worked.Origin.TheVariants.{Part as PartOf}
use Rattle.flowfile_record.specs.declared.worked.Worked.{Worked}
use Rattle.flowfile_record.specs.declared.worked.Outcome.{Outcome}
use Rattle.machine_model.specs.Making.{TakenFile, passed_on, clone_of, may_have}

-- ---- how a list is cut

-- groups of so many, at most so many groups
abbrev pub groups_within : {A : Type 0} → (most size : ℕ) → List A → List (List A)
groups_within most size [] = []
groups_within zero size (x ∷ xs) = []
groups_within (suc most) size (x ∷ xs) = take size (x ∷ xs) ∷ groups_within most size (drop size (x ∷ xs))

-- a list in groups of so many, the last one shorter
abbrev pub groups_of : {A : Type 0} → (size : ℕ) → List A → List (List A)
groups_of size xs = groups_within (length xs) size xs

-- ---- a part's file

-- a part of a content: how many bytes it has, and what its file is told beside its place among the parts
pub record Piece : Type 0 where
  pub size : ℕ
  pub told : List (List ℕ × List ℕ)

-- The file whose content is a part of the taken one. Where it is the whole, the file is a clone.
abbrev pub part_of : TakenFile → AttributeMap → (offset size relationship : ℕ) → Worked
part_of file attributes offset size relationship =
    let clone = clone_of 0 attributes relationship in
    if (offset == 0) && (size == length file.bytes) then clone
    else record clone { origin = PartOf 0; body = Part 0 offset size }

-- which part of which whole it is
abbrev pub fragment_pairs : TakenFile → (index count : ℕ) → List (List ℕ × List ℕ)
fragment_pairs file index count =
    (codes "fragment.identifier", file.uuid) ∷ (codes "fragment.index", decimal index)
    ∷ (codes "fragment.count", decimal count)
    ∷ (codes "segment.original.filename", unwrap_or (get file.attributes (codes "filename")) []) ∷ []

-- attributes that a made file may have, beside files whose attributes have so many bytes together
abbrev pub has_room : (others : ℕ) → AttributeMap → Bool
has_room others attributes =
    may_have (PartOf 0) attributes && nat_le (others + encoded_size attributes) SESSION_ATTRIBUTES_MAX

-- a made file's attributes with these pairs set one after another, which need room each time
abbrev pub all_set_beside : (others : ℕ) → AttributeMap → List (List ℕ × List ℕ) → Option AttributeMap
all_set_beside others attributes [] = if has_room others attributes then Some attributes else None
all_set_beside others attributes (pair ∷ pairs) =
    if has_room others attributes then all_set_beside others (insert attributes pair.0 pair.1) pairs else None

-- ---- all parts

-- The parts from one on, of so many: its index, where it begins, and how many bytes the attributes of the files before
-- it have together.
abbrev pub parts_from : TakenFile → (relationship count index offset others : ℕ) → List Piece
    → Option (List Worked)
parts_from file relationship count index offset others [] = Some []
parts_from file relationship count index offset others (piece ∷ pieces) =
    option_and_then (λ attributes.
    option_map (λ parts. part_of file attributes offset piece.size relationship ∷ parts)
    (parts_from file relationship count (index + 1) (offset + piece.size) (others + encoded_size attributes) pieces))
    (all_set_beside others file.attributes (piece.told ++ fragment_pairs file index count))

-- The file to one relationship, its parts to another. None where there are more of them than a session may have files.
abbrev pub parted : (original parts : ℕ) → TakenFile → List Piece → Option Outcome
parted original parts file pieces =
    if nat_lt (length pieces) FILES_MAX
    then option_map (λ made. record { files = passed_on 0 file.attributes false original ∷ made; sent = None })
    (parts_from file parts (length pieces) 1 0 (encoded_size file.attributes) pieces) else None
