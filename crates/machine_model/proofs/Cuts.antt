-- What groups and lines are, for who cuts a content into them, and parts whose attributes are small.
use Rattle.std.proofs.Common.{◌≡◌, ℕ, zero, suc, ◌+◌, ◌≤◌, true, false, List, [], ◌∷◌, ◌++◌, length, take, drop, refl, ap, ◌∙◌, arith}
use Rattle.std.specs.Prelude.{All, Option, Some, ◌==◌, fold, option_and_then, option_map, sum_by}
use Rattle.std.specs.FinMap.{insert}
use Rattle.std.proofs.lemmas.Bool.{le-leb}
use Rattle.std.proofs.lemmas.List.{length-drop}
use Rattle.std.proofs.lemmas.List.Elements.{All-head, All-tail}
use Rattle.std.proofs.lemmas.List.Sums.{sum_by-cons}
use Rattle.flowfile_record.specs.Attributes.{AttributeMap, encoded_size, pair_size}
use Rattle.flowfile_record.specs.Outcome.{filename_to_come}
use Rattle.flowfile_record.specs.declared.attributes.TheConstants.{ATTRIBUTES_MAX}
use Rattle.flowfile_record.specs.declared.limits.TheConstants.{SESSION_ATTRIBUTES_MAX}
use Rattle.flowfile_record.specs.declared.worked.Origin.TheVariants.{Part as PartOf}
use Rattle.flowfile_record.specs.declared.worked.Worked.{Worked}
use Rattle.machine_model.specs.Making.{TakenFile}
use Rattle.machine_model.specs.Parts.{Piece, all_set_beside, fragment_pairs, groups_of, groups_within, has_room, part_of, parts_from}
use Rattle.machine_model.specs.SplitText.{lines_of, on_first_line}
use Rattle.machine_model.proofs.OneOutcome.{insert-size, to-come-most}

-- ---- groups

enough : {A : Type 0} (most more size : ℕ) (xs : List A) → 1 ≤ size → length xs ≤ most → length xs ≤ more → groups_within most size xs ≡ groups_within more size xs
enough most more size [] some few many = refl
enough zero more size (x ∷ xs) some few many = absurd (omega arith)
enough (suc most) zero size (x ∷ xs) some few many = absurd (omega arith)
enough (suc most) (suc more) size (x ∷ xs) some few many =
    let long = length-drop size (x ∷ xs) in
    ap (λ groups. take size (x ∷ xs) ∷ groups) (enough most more size (drop size (x ∷ xs)) some (omega (arith, long, few)) (omega (arith, long, many)))

-- the first group, and those of the rest
pub groups-step : {A : Type 0} (size : ℕ) (x : A) (xs : List A) → 1 ≤ size → groups_of size (x ∷ xs) ≡ take size (x ∷ xs) ∷ groups_of size (drop size (x ∷ xs))
groups-step size x xs some =
    let back = drop size (x ∷ xs) in
    ap (λ groups. take size (x ∷ xs) ∷ groups) (enough (length xs) (length back) size back some (omega (arith, length-drop size (x ∷ xs), some)) (omega arith))

-- ---- lines

-- up to the first line feed, and what stands behind it
pub lines-feed : (front back : List ℕ) → All (λ byte. (byte == 10) ≡ false) front → lines_of (front ++ 10 ∷ back) ≡ (front ++ 10 ∷ []) ∷ lines_of back
lines-feed [] back none = refl
lines-feed (byte ∷ front) back none =
    rw (All-head (λ (byte : ℕ). (byte == 10) ≡ false) byte front none)
    (ap (on_first_line byte) (lines-feed front back (All-tail (λ (byte : ℕ). (byte == 10) ≡ false) byte front none)))

-- a line that ends with the content
pub lines-last : (byte : ℕ) (bytes : List ℕ) → All (λ byte. (byte == 10) ≡ false) (byte ∷ bytes) → lines_of (byte ∷ bytes) ≡ (byte ∷ bytes) ∷ []
lines-last byte [] none = rw (All-head (λ (byte : ℕ). (byte == 10) ≡ false) byte [] none) refl
lines-last byte (next ∷ bytes) none =
    rw (All-head (λ (byte : ℕ). (byte == 10) ≡ false) byte (next ∷ bytes) none)
    (ap (on_first_line byte) (lines-last next bytes (All-tail (λ (byte : ℕ). (byte == 10) ≡ false) byte (next ∷ bytes) none)))

-- ---- small attributes

has-room : (others : ℕ) (attributes : AttributeMap) → others ≤ 60_000_000 → encoded_size attributes ≤ 60_000 → has_room others attributes ≡ true
has-room others attributes beside small =
    let named : encoded_size attributes + filename_to_come (PartOf 0) attributes ≤ ATTRIBUTES_MAX = omega (arith, to-come-most (PartOf 0) attributes, small) in
    let all : others + encoded_size attributes ≤ SESSION_ATTRIBUTES_MAX = omega (arith, beside, small) in
    rw (le-leb (encoded_size attributes + filename_to_come (PartOf 0) attributes) ATTRIBUTES_MAX named, le-leb (others + encoded_size attributes) SESSION_ATTRIBUTES_MAX all) refl

-- the attributes with the pairs set, whose sizes add up to so many bytes
pub small-set : (others : ℕ) (attributes : AttributeMap) (pairs : List (List ℕ × List ℕ)) → others ≤ 60_000_000 → encoded_size attributes + sum_by pair_size pairs ≤ 60_000
    → all_set_beside others attributes pairs ≡ Some (fold (λ set pair. insert set pair.0 pair.1) attributes pairs)
small-set others attributes [] beside small = rw (has-room others attributes beside (omega (arith, small))) refl
small-set others attributes (pair ∷ pairs) beside small =
    let first = sum_by-cons pair_size pair pairs in
    rw (has-room others attributes beside (omega (arith, first, small)))
    (small-set others (insert attributes pair.0 pair.1) pairs beside (omega (arith, first, small, insert-size attributes pair.0 pair.1)))

abbrev all_set : AttributeMap → List (List ℕ × List ℕ) → AttributeMap
all_set attributes pairs = fold (λ set pair. insert set pair.0 pair.1) attributes pairs

pub set-size : (attributes : AttributeMap) (pairs : List (List ℕ × List ℕ)) → encoded_size (all_set attributes pairs) ≤ encoded_size attributes + sum_by pair_size pairs
set-size attributes [] = omega arith
set-size attributes (pair ∷ pairs) = omega (arith, sum_by-cons pair_size pair pairs, insert-size attributes pair.0 pair.1, set-size (insert attributes pair.0 pair.1) pairs)

-- ---- parts, one after another

pub parts-step : (file : TakenFile) (relationship count index offset others : ℕ) (piece : Piece) (pieces : List Piece) (attributes : AttributeMap) (parts : List Worked)
    → all_set_beside others file.attributes (piece.told ++ fragment_pairs file index count) ≡ Some attributes
    → parts_from file relationship count (index + 1) (offset + piece.size) (others + encoded_size attributes) pieces ≡ Some parts
    → parts_from file relationship count index offset others (piece ∷ pieces) ≡ Some (part_of file attributes offset piece.size relationship ∷ parts)
parts-step file relationship count index offset others piece pieces attributes parts set rest =
    let part : AttributeMap → Worked = λ attributes. part_of file attributes offset piece.size relationship in
    let behind : AttributeMap → Option (List Worked) = λ attributes. parts_from file relationship count (index + 1) (offset + piece.size) (others + encoded_size attributes) pieces in
    ap (option_and_then (λ attributes. option_map (λ parts. part attributes ∷ parts) (behind attributes))) set
    ∙ ap (option_map (λ parts. part attributes ∷ parts)) rest
