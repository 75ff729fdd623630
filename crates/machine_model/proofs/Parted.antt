-- That parts of a content, and a content without its ends, make outcomes.
use Rattle.std.proofs.Common.{◌≡◌, ℕ, zero, suc, ◌+◌, ◌-◌, ◌<◌, ◌≤◌, true, false, cond, ◌&&◌, List, [], ◌∷◌, ◌++◌, map, length, take, drop, refl, sym, ap, ◌∙◌, arith}
use Rattle.std.specs.Prelude.{All, IfSome, Option, Some, None, ◌==◌, nat_le, nat_lt, option_map, unwrap_or, sum_by, codes, decimal}
use Rattle.std.specs.FinMap.{get, insert, entries}
use Rattle.std.specs.Str.{IsUtf8}
use Rattle.std.proofs.lemmas.Bool.{and_parts, leb-true, ltb-true}
use Rattle.std.proofs.lemmas.Fmt.{IsAscii-decimal}
use Rattle.std.proofs.lemmas.List.{length-append, length-drop, length-take-le, take-append-drop}
use Rattle.std.proofs.lemmas.List.Elements.{All-nil, All-cons, All-head, All-tail, All-append, All-map, All-weaker}
use Rattle.std.proofs.lemmas.List.Sums.{sum_by-cons, sum_by-take-drop}
use Rattle.std.proofs.lemmas.Str.{IsUtf8-from_ascii, IsUtf8-nil}
use Rattle.flowfile_record.specs.Attributes.{AttributeMap, IsPair, IsWithinLimits, encoded_size}
use Rattle.flowfile_record.specs.Outcome.{IsWorked, IsOutcome, filename_to_come}
use Rattle.flowfile_record.specs.declared.TheConstants.{CONTENT_MAX}
use Rattle.flowfile_record.specs.declared.attributes.TheConstants.{ATTRIBUTES_MAX}
use Rattle.flowfile_record.specs.declared.limits.TheConstants.{FILES_MAX, SESSION_ATTRIBUTES_MAX}
use Rattle.flowfile_record.specs.declared.worked.Body.TheVariants.{Part}
use Rattle.flowfile_record.specs.declared.worked.Origin.TheVariants.{Part as PartOf}
use Rattle.flowfile_record.specs.declared.worked.Outcome.{Outcome}
use Rattle.flowfile_record.specs.declared.worked.Worked.{Worked}
use Rattle.machine_model.specs.AttributesToJson.{written_on}
use Rattle.machine_model.specs.Making.{TakenFile, passed_on, clone_of, may_have, or_given_up}
use Rattle.machine_model.specs.ModifyBytes.{modify, without_ends}
use Rattle.machine_model.specs.Parts.{Piece, all_set_beside, fragment_pairs, groups_of, groups_within, has_room, part_of, parts_from, parted}
use Rattle.machine_model.specs.SegmentContent.{segment, bytes_together}
use Rattle.machine_model.specs.SplitText.{split, lines_of, lines_together, on_first_line}
use Rattle.machine_model.proofs.Acted.{written-alone}
use Rattle.machine_model.proofs.AttributesWhole.{alone-outcome, or-given-up-gives}
use Rattle.machine_model.proofs.InTurn.{if_allowed, parts-made, passed-turn}
use Rattle.machine_model.proofs.OneOutcome.{insert-pairs, literal, passed-worked}
use Rattle.machine_model.proofs.Options.{if_and_then, if_at, if_map, if_when}
use Rattle.machine_model.proofs.Outcomes.{IsMade}
use Rattle.machine_model.proofs.SetWhole.{IsTextual, attributes-find}
use Rattle.machine_model.proofs.Tally.{Each}

-- a taken file within the limits of flow files
pub record IsTakenFile (file : TakenFile) : Type 0 where
  pub textual : IsTextual file
  pub content : length file.bytes ≤ CONTENT_MAX

pub all-taken : (taken : List TakenFile) → All (λ file. IsWithinLimits file.attributes) taken → All (λ file. IsUtf8 file.uuid) taken → All (λ file. length file.bytes ≤ CONTENT_MAX) taken → All IsTakenFile taken
all-taken taken within texts short place default below = record {
  textual = record { attributes = within place default below; uuid = texts place default below };
  content = short place default below;
}

-- ---- a content without its ends

rest-short : (start end most : ℕ) (bytes : List ℕ) → length bytes ≤ most → length (without_ends start end bytes) ≤ most
rest-short start end most bytes short =
    let rest = drop start bytes in
    omega (arith, length-drop start bytes, length-take-le (length rest - end) rest (omega arith))

pub modify-gives : (start end : ℕ) (file : TakenFile) → IsTakenFile file → IsOutcome 1 (length file.bytes ∷ []) (modify start end file)
modify-gives start end file is =
    let bytes = without_ends start end file.bytes in
    alone-outcome 1 (length file.bytes) (written_on file.attributes bytes) (written-alone file.attributes bytes) (record {
      names = tt;
      body = rest-short start end CONTENT_MAX file.bytes is.content;
      ends = omega arith;
      routed = tt;
      attributes = is.textual.attributes;
      named = omega (arith, is.textual.attributes.size);
    })

-- ---- the attributes of a part

-- attributes that a part may have beside others of so many bytes
record HasRoom (others : ℕ) (attributes : AttributeMap) : Type 0 where
  within : IsWithinLimits attributes
  named : encoded_size attributes + filename_to_come (PartOf 0) attributes ≤ ATTRIBUTES_MAX
  fits : others + encoded_size attributes ≤ SESSION_ATTRIBUTES_MAX

room-is : (others : ℕ) (attributes : AttributeMap) → All IsPair (entries attributes) → has_room others attributes ≡ true → HasRoom others attributes
room-is others attributes pairs may =
    let all = others + encoded_size attributes in
    let named = encoded_size attributes + filename_to_come (PartOf 0) attributes in
    let both = and_parts (may_have (PartOf 0) attributes) (nat_le all SESSION_ATTRIBUTES_MAX) may in
    let few = leb-true named ATTRIBUTES_MAX both.0 in
    record { within = record { pairs = pairs; size = omega (arith, few) }; named = few; fits = leb-true all SESSION_ATTRIBUTES_MAX both.1 }

set-has-room : (others : ℕ) (attributes : AttributeMap) (pairs : List (List ℕ × List ℕ)) → All IsPair pairs → All IsPair (entries attributes) → IfSome (all_set_beside others attributes pairs) (HasRoom others)
set-has-room others attributes [] are all = if_when (has_room others attributes) attributes (HasRoom others) (room-is others attributes all)
set-has-room others attributes (pair ∷ pairs) are all =
    if_allowed (has_room others attributes) (all_set_beside others (insert attributes pair.0 pair.1) pairs) (HasRoom others) (λ may.
    set-has-room others (insert attributes pair.0 pair.1) pairs (All-tail IsPair pair pairs are)
    (insert-pairs attributes pair.0 pair.1 (All-head IsPair pair pairs are) all))

pub number-text : (n : ℕ) → n ≤ CONTENT_MAX → IsUtf8 (decimal n)
number-text n few = IsUtf8-from_ascii (decimal n) (IsAscii-decimal n (omega arith))

text-or-none : (text : Option (List ℕ)) → IfSome text IsUtf8 → IsUtf8 (unwrap_or text [])
text-or-none None is = IsUtf8-nil
text-or-none (Some text) is = is

fragment-pairs : (file : TakenFile) (index count : ℕ) → IsTextual file → index ≤ CONTENT_MAX → count ≤ CONTENT_MAX → All IsPair (fragment_pairs file index count)
fragment-pairs file index count is first last =
    let name = unwrap_or (get file.attributes (codes "filename")) [] in
    let original = (codes "segment.original.filename", name) ∷ [] in
    let counted = (codes "fragment.count", decimal count) ∷ original in
    let placed = (codes "fragment.index", decimal index) ∷ counted in
    All-cons IsPair (codes "fragment.identifier", file.uuid) placed (record { key = refl; key_text = literal (codes "fragment.identifier") refl; value_text = is.uuid })
    (All-cons IsPair (codes "fragment.index", decimal index) counted (record { key = refl; key_text = literal (codes "fragment.index") refl; value_text = number-text index first })
    (All-cons IsPair (codes "fragment.count", decimal count) original (record { key = refl; key_text = literal (codes "fragment.count") refl; value_text = number-text count last })
    (All-cons IsPair (codes "segment.original.filename", name) [] (record {
      key = refl;
      key_text = literal (codes "segment.original.filename") refl;
      value_text = text-or-none (get file.attributes (codes "filename")) (attributes-find file.attributes is.attributes (codes "filename"));
    }) (All-nil IsPair))))

-- ---- parts

part-worked : (relationships relationship offset size others : ℕ) (file : TakenFile) (attributes : AttributeMap) → relationship < relationships → offset + size ≤ length file.bytes → HasRoom others attributes
    → IsWorked relationships (length file.bytes ∷ []) (part_of file attributes offset size relationship)
part-worked relationships relationship offset size others file attributes there inside room =
    let clone = clone_of 0 attributes relationship in
    elim ((offset == 0) && (size == length file.bytes)) as (λ b. IsWorked relationships (length file.bytes ∷ []) (cond b clone (record clone { origin = PartOf 0; body = Part 0 offset size }))) [
      | true ↦ record { names = tt; body = omega arith; ends = there; routed = tt; attributes = room.within; named = room.named }
      | false ↦ record { names = tt; body = (omega arith, inside); ends = there; routed = tt; attributes = room.within; named = room.named }
    ]

part-attributes : (file : TakenFile) (attributes : AttributeMap) (offset size relationship : ℕ) → (part_of file attributes offset size relationship).attributes ≡ attributes
part-attributes file attributes offset size relationship =
    let clone = clone_of 0 attributes relationship in
    elim ((offset == 0) && (size == length file.bytes)) as (λ b. (cond b clone (record clone { origin = PartOf 0; body = Part 0 offset size })).attributes ≡ attributes) [ true ↦ refl | false ↦ refl ]

-- files of a session's outcome, so many, beside others with attributes of so many bytes
record AreParts (relationships size others count : ℕ) (parts : List Worked) : Type 0 where
  each : All (IsWorked relationships (size ∷ [])) parts
  many : length parts ≡ count
  fits : others + sum_by (λ file. encoded_size file.attributes) parts ≤ SESSION_ATTRIBUTES_MAX

abbrev Tells : Piece → Type 0
Tells piece = All IsPair piece.told

-- what the parts from one on are cut from
record AreCutFrom (file : TakenFile) (count index offset others : ℕ) (pieces : List Piece) : Type 0 where
  counted : count ≤ CONTENT_MAX
  numbered : index + length pieces ≤ CONTENT_MAX
  inside : offset + sum_by (λ (piece : Piece). piece.size) pieces ≤ length file.bytes
  beside : others ≤ SESSION_ATTRIBUTES_MAX
  told : All Tells pieces

parts-are : (relationships relationship count index offset others : ℕ) (file : TakenFile) (pieces : List Piece) → relationship < relationships → IsTextual file → AreCutFrom file count index offset others pieces
    → IfSome (parts_from file relationship count index offset others pieces) (AreParts relationships (length file.bytes) others (length pieces))
parts-are relationships relationship count index offset others file [] there is cut =
    record { each = All-nil (IsWorked relationships (length file.bytes ∷ [])); many = refl; fits = omega (arith, cut.beside) }
parts-are relationships relationship count index offset others file (piece ∷ pieces) there is cut =
    let whole = length file.bytes in
    let size : Worked → ℕ = λ file. encoded_size file.attributes in
    let Are = AreParts relationships whole others (suc (length pieces)) in
    let told = piece.told ++ fragment_pairs file index count in
    let set = all_set_beside others file.attributes told in
    let sizes = sum_by-cons (λ (piece : Piece). piece.size) piece pieces in
    let pairs = All-append IsPair piece.told (fragment_pairs file index count) (All-head Tells piece pieces cut.told) (fragment-pairs file index count is (omega (arith, cut.numbered)) cut.counted) in
    let rooms = set-has-room others file.attributes told pairs is.attributes.pairs in
    let behind : AttributeMap → Option (List Worked) = λ attributes. parts_from file relationship count (index + 1) (offset + piece.size) (others + encoded_size attributes) pieces in
    let part : AttributeMap → Worked = λ attributes. part_of file attributes offset piece.size relationship in
    if_and_then (λ attributes. option_map (λ parts. part attributes ∷ parts) (behind attributes)) set Are (λ attributes got.
    let room = if_at set attributes (HasRoom others) got rooms in
    let rest = parts-are relationships relationship count (index + 1) (offset + piece.size) (others + encoded_size attributes) file pieces there is (record {
      counted = cut.counted;
      numbered = omega (arith, cut.numbered);
      inside = omega (arith, sizes, cut.inside);
      beside = room.fits;
      told = All-tail Tells piece pieces cut.told;
    }) in
    if_map (λ parts. part attributes ∷ parts) (behind attributes) Are (λ parts made.
    let are = if_at (behind attributes) parts (AreParts relationships whole (others + encoded_size attributes) (length pieces)) made rest in
    record {
      each = All-cons (IsWorked relationships (whole ∷ [])) (part attributes) parts
          (part-worked relationships relationship offset piece.size others file attributes there (omega (arith, sizes, cut.inside)) room) are.each;
      many = ap suc are.many;
      fits = omega (arith, sum_by-cons size (part attributes) parts, ap encoded_size (part-attributes file attributes offset piece.size relationship), are.fits);
    }))

parted-gives : (original parts : ℕ) (file : TakenFile) (pieces : List Piece) → original < 3 → parts < 3 → IsTakenFile file → sum_by (λ (piece : Piece). piece.size) pieces ≤ length file.bytes → All Tells pieces
    → IsOutcome 3 (length file.bytes ∷ []) (or_given_up 2 (file ∷ []) (parted original parts file pieces))
parted-gives original parts file pieces first second is inside told =
    let whole = length file.bytes in
    let within = is.textual.attributes in
    let beside = encoded_size file.attributes in
    let size : Worked → ℕ = λ file. encoded_size file.attributes in
    let passed = passed_on 0 file.attributes false original in
    let made = parts_from file parts (length pieces) 1 0 beside pieces in
    let outcome : List Worked → Outcome = λ made. record { files = passed ∷ made; sent = None } in
    or-given-up-gives 3 2 whole file (parted original parts file pieces) (omega arith) within
    (if_allowed (nat_lt (length pieces) FILES_MAX) (option_map outcome made) (IsOutcome 3 (whole ∷ [])) (λ few.
    let few : length pieces < 10_000 = ltb-true (length pieces) FILES_MAX few in
    let all = parts-are 3 parts (length pieces) 1 0 beside file pieces second is.textual (record {
      counted = omega (arith, few);
      numbered = omega (arith, few);
      inside = omega (arith, inside);
      beside = omega (arith, within.size);
      told = told;
    }) in
    if_map outcome made (IsOutcome 3 (whole ∷ [])) (λ files got.
    let are = if_at made files (AreParts 3 whole beside (length pieces)) got all in
    record {
      taken = omega arith;
      count = omega (arith, few, are.many);
      in_turn = passed-turn original 0 1 (file ∷ []) files (omega arith) (if_at made files (Each (IsMade 1)) got (parts-made file parts (length pieces) 1 0 beside pieces));
      each = All-cons (IsWorked 3 (whole ∷ [])) passed files (passed-worked 3 original whole file.attributes false first within) are.each;
      attributes = omega (arith, sum_by-cons size passed files, are.fits);
      sent = tt;
    })))

-- ---- how a list is cut

cut-length : {A : Type 0} (n : ℕ) (xs : List A) → length (take n xs) + length (drop n xs) ≡ length xs
cut-length n xs = sym (length-append (take n xs) (drop n xs)) ∙ ap length (take-append-drop n xs)

groups-fill : {A : Type 0} (weight : List A → ℕ) (piece : List A → Piece) → ((n : ℕ) (xs : List A) → weight (take n xs) + weight (drop n xs) ≡ weight xs) → ((xs : List A) → (piece xs).size ≡ weight xs)
    → (most size : ℕ) (xs : List A) → sum_by (λ (p : Piece). p.size) (map piece (groups_within most size xs)) ≤ weight xs
groups-fill weight piece cut sized most size [] = omega arith
groups-fill weight piece cut sized zero size (x ∷ xs) = omega arith
groups-fill weight piece cut sized (suc most) size (x ∷ xs) =
    let front = take size (x ∷ xs) in
    let back = drop size (x ∷ xs) in
    omega (arith, sum_by-cons (λ (p : Piece). p.size) (piece front) (map piece (groups_within most size back)), sized front, cut size (x ∷ xs), groups-fill weight piece cut sized most size back)

groups-short : {A : Type 0} (most size limit : ℕ) (xs : List A) → length xs ≤ limit → All (λ group. length group ≤ limit) (groups_within most size xs)
groups-short {A} most size limit [] short = All-nil (λ (group : List A). length group ≤ limit)
groups-short {A} zero size limit (x ∷ xs) short = All-nil (λ (group : List A). length group ≤ limit)
groups-short {A} (suc most) size limit (x ∷ xs) short =
    let front = take size (x ∷ xs) in
    let back = drop size (x ∷ xs) in
    let parts = cut-length size (x ∷ xs) in
    All-cons (λ (group : List A). length group ≤ limit) front (groups_within most size back) (omega (arith, parts, short)) (groups-short most size limit back (omega (arith, parts, short)))

-- ---- segments

pub segment-gives : (size : ℕ) (file : TakenFile) → IsTakenFile file → IsOutcome 3 (length file.bytes ∷ []) (segment size file)
segment-gives size file is =
    let groups = groups_of size file.bytes in
    parted-gives 1 0 file (map bytes_together groups) (omega arith) (omega arith) is
    (groups-fill length bytes_together (λ n xs. cut-length n xs) (λ xs. refl) (length file.bytes) size file.bytes)
    (All-map Tells bytes_together groups
    (All-weaker (λ (group : List ℕ). length group ≤ CONTENT_MAX) (λ group. Tells (bytes_together group)) (λ group short. All-nil IsPair) groups
    (groups-short (length file.bytes) size CONTENT_MAX file.bytes is.content)))

-- ---- lines

first-line : (byte : ℕ) (lines : List (List ℕ)) → (length (on_first_line byte lines) ≤ length lines + 1) × (sum_by length (on_first_line byte lines) ≤ sum_by length lines + 1)
first-line byte [] = (omega arith, omega (arith, sum_by-cons length (byte ∷ []) []))
first-line byte (line ∷ lines) = (omega arith, omega (arith, sum_by-cons length (byte ∷ line) lines, sum_by-cons length line lines))

-- no more lines than bytes, and no more bytes in them
lines-few : (bytes : List ℕ) → (length (lines_of bytes) ≤ length bytes) × (sum_by length (lines_of bytes) ≤ length bytes)
lines-few [] = (omega arith, omega arith)
lines-few (byte ∷ bytes) =
    let rest = lines_of bytes in
    let few = lines-few bytes in
    let first = first-line byte rest in
    elim (byte == 10) as (λ b. (length (cond b ((byte ∷ []) ∷ rest) (on_first_line byte rest)) ≤ suc (length bytes)) × (sum_by length (cond b ((byte ∷ []) ∷ rest) (on_first_line byte rest)) ≤ suc (length bytes))) [
      | true ↦ (omega (arith, few.0), omega (arith, few.1, sum_by-cons length (byte ∷ []) rest))
      | false ↦ (omega (arith, few.0, first.0), omega (arith, few.1, first.1))
    ]

lines-told : (lines : List (List ℕ)) → length lines ≤ CONTENT_MAX → Tells (lines_together lines)
lines-told lines few =
    All-cons IsPair (codes "text.line.count", decimal (length lines)) [] (record { key = refl; key_text = literal (codes "text.line.count") refl; value_text = number-text (length lines) few }) (All-nil IsPair)

pub split-gives : (lines : ℕ) (file : TakenFile) → IsTakenFile file → IsOutcome 3 (length file.bytes ∷ []) (split lines file)
split-gives lines file is =
    let all = lines_of file.bytes in
    let few = lines-few file.bytes in
    let groups = groups_of lines all in
    parted-gives 0 1 file (map lines_together groups) (omega arith) (omega arith) is
    (omega (arith, few.1, groups-fill (sum_by length) lines_together (λ n xs. sum_by-take-drop length xs n) (λ xs. refl) (length all) lines all))
    (All-map Tells lines_together groups
    (All-weaker (λ (group : List (List ℕ)). length group ≤ CONTENT_MAX) (λ group. Tells (lines_together group)) lines-told groups
    (groups-short (length all) lines CONTENT_MAX all (omega (arith, few.0, is.content)))))
