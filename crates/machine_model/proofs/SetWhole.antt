-- That what processors make by setting attributes of the file that they took, or of these attributes, is an outcome of theirs.
use Rattle.std.proofs.Common.{◌≡◌, ℕ, ◌+◌, ◌≤◌, Bool, true, false, cond, not, ◌&&◌, List, [], ◌∷◌, map, length, refl, ap, arith, Ok, Err}
use Rattle.std.specs.Prelude.{All, IfSome, IsTrue, Option, Some, None, nat_le, nat_lt, option_map, option_and_then, unwrap_or, codes}
use Rattle.std.specs.Ordering.{nat_cmp, eq_by_cmp}
use Rattle.std.specs.Cmp.Lexicographic.{slice_cmp}
use Rattle.std.specs.FinMap.{get, insert, entries, get-entries}
use Rattle.std.specs.FinMap.Entries.{find as find_pair}
use Rattle.std.specs.List.{list_all}
use Rattle.std.specs.Str.{IsUtf8}
use Rattle.std.proofs.lemmas.Bool.{and_parts, leb-true, lt-ltb}
use Rattle.std.proofs.lemmas.List.Elements.{All-nil, All-cons, All-head, All-tail, All-append, All-map, All-weaker}
use Rattle.std.proofs.lemmas.Str.{IsUtf8-from_ascii}
use Rattle.std.proofs.lemmas.Str.Ascii.{IsAscii-from_all}
use Rattle.hex.specs.Hex.{encode_lower, lower_digits}
use Rattle.hex.proofs.HexLemmas.{IsAscii-encode_with}
use Rattle.sha2.specs.Sha256.{sha256}
use Rattle.flowfile_record.specs.Attributes.{AttributeMap, IsPair, IsWithinLimits, encoded_size, is_uuid, has_key_length}
use Rattle.flowfile_record.specs.Outcome.{IsWorked, IsOutcome, filename_to_come}
use Rattle.flowfile_record.specs.declared.TheConstants.{CONTENT_MAX}
use Rattle.flowfile_record.specs.declared.attributes.TheConstants.{ATTRIBUTES_MAX, KEY_MAX}
use Rattle.flowfile_record.specs.declared.worked.Origin.{Origin}
use Rattle.flowfile_record.specs.declared.worked.Origin.TheVariants.{Taken}
use Rattle.expr_lang.specs.Meaning.{Attributes, tree_value}
use Rattle.expr_lang.specs.Value.{Value, Answer, as_text}
use Rattle.expr_lang.specs.View.{tree_of}
use Rattle.machine_model.specs.declared.kind.Destination.{Destination}
use Rattle.machine_model.specs.declared.kind.Destination.TheVariants.{Attribute, Content}
use Rattle.machine_model.specs.declared.kind.OwnExpression.{OwnExpression}
use Rattle.machine_model.specs.declared.limits.TheConstants.{OWN_NAME_MAX}
use Rattle.machine_model.specs.Making.{TakenFile, alone, passed_on, found_in, may_have, with_set, with_all_set, as_content}
use Rattle.machine_model.specs.UpdateAttribute.{update, updated, own_texts, text_in}
use Rattle.machine_model.specs.AttributesToJson.{attributes_to_json, json_of, listed, noted_in, written_on}
use Rattle.machine_model.specs.CryptographicHashContent.{hash_content, hashed}
use Rattle.machine_model.specs.Sound.{within}
use Rattle.machine_model.proofs.Acted.{written-alone}
use Rattle.machine_model.proofs.AttributesWhole.{alone-outcome, passed-gives, or-given-up-gives}
use Rattle.machine_model.proofs.JsonTexts.{IsTextPair, object-text}
use Rattle.machine_model.proofs.OneOutcome.{insert-pairs, below_128, literal}
use Rattle.machine_model.proofs.Options.{if_and_then, if_at, if_when}
use Rattle.machine_model.proofs.Texts.{FindsTexts, GivesText, found-text, expression-text}

-- ---- attributes that are set

-- a name and a value that attributes may get
pub record CanBeSet (pair : List ℕ × List ℕ) : Type 0 where
  pub key : IsTrue (has_key_length pair.0)
  pub key_text : IsUtf8 pair.0
  pub value_text : IsUtf8 pair.1

both : (a b : Bool) → a ≡ true → b ≡ true → (a && b) ≡ true
both true true h k = refl
both true false h k = k
both false b h k = h

set-within : (origin : Origin) (attributes : AttributeMap) (pair : List ℕ × List ℕ) → CanBeSet pair → IsWithinLimits attributes → IfSome (with_set origin attributes pair) IsWithinLimits
set-within origin attributes pair can within =
    let set = insert attributes pair.0 pair.1 in
    elim (is_uuid pair.0) as (λ b. is_uuid pair.0 ≡ b → IfSome (cond b (Some attributes) (cond (may_have origin set) (Some set) None)) IsWithinLimits) [
      | true ↦ λ is. within
      | false ↦ λ is. if_when (may_have origin set) set IsWithinLimits (λ may.
          let named : IsPair pair = record {
            key = both (has_key_length pair.0) (not (is_uuid pair.0)) can.key (ap not is);
            key_text = can.key_text;
            value_text = can.value_text;
          } in
          record {
            pairs = insert-pairs attributes pair.0 pair.1 named within.pairs;
            size = omega (arith, leb-true (encoded_size set + filename_to_come origin set) ATTRIBUTES_MAX may);
          })
    ] refl

pub all-set-within : (origin : Origin) (attributes : AttributeMap) (pairs : List (List ℕ × List ℕ)) → All CanBeSet pairs → IsWithinLimits attributes → IfSome (with_all_set origin attributes pairs) IsWithinLimits
all-set-within origin attributes [] can within = within
all-set-within origin attributes (pair ∷ pairs) can within =
    if_and_then (λ set. with_all_set origin set pairs) (with_set origin attributes pair) IsWithinLimits
    (λ set is. all-set-within origin set pairs (All-tail CanBeSet pair pairs can)
    (if_at (with_set origin attributes pair) set IsWithinLimits is (set-within origin attributes pair (All-head CanBeSet pair pairs can) within)))

-- the taken file with other attributes
pub with-attributes-gives : (size : ℕ) (set : Option AttributeMap) → IfSome set IsWithinLimits → IfSome (option_map (λ attributes. alone (passed_on 0 attributes false 0)) set) (IsOutcome 2 (size ∷ []))
with-attributes-gives size (Some attributes) within = passed-gives 2 0 size attributes (omega arith) within
with-attributes-gives size None within = tt

-- ---- digests

digest-text : (bytes : List ℕ) → IsUtf8 (encode_lower bytes)
digest-text bytes = IsUtf8-from_ascii (encode_lower bytes) (IsAscii-encode_with lower_digits bytes (IsAscii-from_all lower_digits (below_128 lower_digits refl)))

digest-can : (file : TakenFile) → CanBeSet (codes "content_SHA-256", encode_lower (sha256 file.bytes))
digest-can file = record { key = refl; key_text = literal (codes "content_SHA-256") refl; value_text = digest-text (sha256 file.bytes) }

pub hash-gives : (file : TakenFile) → IsWithinLimits file.attributes → IsOutcome 2 (length file.bytes ∷ []) (hash_content file)
hash-gives file within =
    or-given-up-gives 2 1 (length file.bytes) file (hashed file) (omega arith) within
    (with-attributes-gives (length file.bytes) _
    (set-within (Taken 0) file.attributes (codes "content_SHA-256", encode_lower (sha256 file.bytes)) (digest-can file) within))

-- ---- texts of expressions

-- a taken file of texts
pub record IsTextual (file : TakenFile) : Type 0 where
  pub attributes : IsWithinLimits file.attributes
  pub uuid : IsUtf8 file.uuid

pairs-find : (name : List ℕ) (pairs : List (List ℕ × List ℕ)) → All IsPair pairs → IfSome (find_pair (slice_cmp nat_cmp) name pairs) IsUtf8
pairs-find name [] all = tt
pairs-find name (pair ∷ pairs) all =
    elim (eq_by_cmp (slice_cmp nat_cmp) name pair.0) as (λ b. IfSome (cond b (Some pair.1) (find_pair (slice_cmp nat_cmp) name pairs)) IsUtf8) [
      | true ↦ (All-head IsPair pair pairs all).value_text
      | false ↦ pairs-find name pairs (All-tail IsPair pair pairs all)
    ]

pub attributes-find : (attributes : AttributeMap) → IsWithinLimits attributes → FindsTexts (get attributes)
attributes-find attributes within name = rw (get-entries attributes name) (pairs-find name (entries attributes) within.pairs)

found-in-texts : (file : TakenFile) → IsTextual file → FindsTexts (found_in file)
found-in-texts file is name =
    elim (is_uuid name) as (λ b. IfSome (cond b (Some file.uuid) (get file.attributes name)) IsUtf8) [ true ↦ is.uuid | false ↦ attributes-find file.attributes is.attributes name ]

own-key : (name : List ℕ) → within 1 (length name) OWN_NAME_MAX ≡ true → IsTrue (has_key_length name)
own-key name is =
    let parts = and_parts (nat_le 1 (length name)) (nat_le (length name) OWN_NAME_MAX) is in
    let some = leb-true 1 (length name) parts.0 in
    both (nat_lt 0 (length name)) (nat_le (length name) KEY_MAX) (lt-ltb 0 (length name) (omega arith)) parts.1

-- the names of own properties
pub record AreNames (own : List OwnExpression) : Type 0 where
  pub lengths : list_all (λ name. within 1 (length name) OWN_NAME_MAX) (map (λ property. property.name) own) ≡ true
  pub texts : All IsUtf8 (map (λ property. property.name) own)

own-texts-can : (find : Attributes) → FindsTexts find → (own : List OwnExpression) → AreNames own → IfSome (own_texts find own) (All CanBeSet)
own-texts-can find finds [] names = All-nil CanBeSet
own-texts-can find finds (property ∷ own) names =
    let later = map (λ (property : OwnExpression). property.name) own in
    let lengths = and_parts (within 1 (length property.name) OWN_NAME_MAX) (list_all (λ name. within 1 (length name) OWN_NAME_MAX) later) names.lengths in
    let rest = own-texts-can find finds own (record { lengths = lengths.1; texts = All-tail IsUtf8 property.name later names.texts }) in
    of_value (tree_value find (tree_of property.expression)) (own_texts find own) (expression-text find finds property.expression)
    (own-key property.name lengths.0) (All-head IsUtf8 property.name later names.texts) rest
  where
    of_value : (value : Answer Value) (texts : Option (List (List ℕ × List ℕ))) → GivesText value → IsTrue (has_key_length property.name) → IsUtf8 property.name → IfSome texts (All CanBeSet)
        → IfSome (option_and_then (λ text. option_map (λ texts. (property.name, text) ∷ texts) texts) (text_in value)) (All CanBeSet)
    of_value (Err error) texts is key name rest = tt
    of_value (Ok value) None is key name rest = tt
    of_value (Ok value) (Some texts) is key name rest =
        All-cons CanBeSet (property.name, as_text value) texts (record { key = key; key_text = name; value_text = is }) rest

pub update-gives : (own : List OwnExpression) (file : TakenFile) → AreNames own → IsTextual file → IsOutcome 2 (length file.bytes ∷ []) (update own file)
update-gives own file names is =
    let texts = own_texts (found_in file) own in
    or-given-up-gives 2 1 (length file.bytes) file (updated own file) (omega arith) is.attributes
    (with-attributes-gives (length file.bytes) (option_and_then (with_all_set (Taken 0) file.attributes) texts)
    (if_and_then (with_all_set (Taken 0) file.attributes) texts IsWithinLimits
    (λ pairs made. all-set-within (Taken 0) file.attributes pairs
    (if_at texts pairs (All CanBeSet) made (own-texts-can (found_in file) (found-in-texts file is) own names)) is.attributes)))

-- ---- objects of attributes

listed-texts : (names : List (List ℕ)) (file : TakenFile) → All IsUtf8 names → IsTextual file → All IsTextPair (listed names file)
listed-texts [] file texts is =
    All-append IsTextPair (entries file.attributes) ((codes "uuid", file.uuid) ∷ [])
    (All-weaker IsPair IsTextPair (λ pair is. record { name = is.key_text; value = is.value_text }) (entries file.attributes) is.attributes.pairs)
    (All-cons IsTextPair (codes "uuid", file.uuid) [] (record { name = literal (codes "uuid") refl; value = is.uuid }) (All-nil IsTextPair))
listed-texts (name ∷ names) file texts is =
    All-map IsTextPair (λ (name : List ℕ). (name, unwrap_or (found_in file name) [])) (name ∷ names)
    (All-weaker IsUtf8 (λ name. IsTextPair (name, unwrap_or (found_in file name) []))
    (λ name text. record { name = text; value = found-text (found_in file) (found-in-texts file is) name }) (name ∷ names) texts)

pub written-worked : (size : ℕ) (attributes : AttributeMap) (bytes : List ℕ) → length bytes ≤ CONTENT_MAX → IsWithinLimits attributes → IsWorked 2 (size ∷ []) (written_on attributes bytes)
written-worked size attributes bytes few within = record {
  names = tt;
  body = few;
  ends = omega arith;
  routed = tt;
  attributes = within;
  named = omega (arith, within.size);
}

noted-gives : (destination : Destination) (file : TakenFile) (json : List ℕ) → IsUtf8 json → IsWithinLimits file.attributes → IfSome (noted_in destination file json) (IsOutcome 2 (length file.bytes ∷ []))
noted-gives Attribute file json text within =
    with-attributes-gives (length file.bytes) (with_set (Taken 0) file.attributes (codes "JSONAttributes", json))
    (set-within (Taken 0) file.attributes (codes "JSONAttributes", json) (record { key = refl; key_text = literal (codes "JSONAttributes") refl; value_text = text }) within)
noted-gives Content file json text within = of_content (as_content json) (if_when (nat_le (length json) CONTENT_MAX) json (λ bytes. length bytes ≤ CONTENT_MAX) (leb-true (length json) CONTENT_MAX))
  where
    of_content : (content : Option (List ℕ)) → IfSome content (λ bytes. length bytes ≤ CONTENT_MAX)
        → IfSome (option_map (λ bytes. alone (written_on file.attributes bytes)) content) (IsOutcome 2 (length file.bytes ∷ []))
    of_content None few = tt
    of_content (Some bytes) few =
        alone-outcome 2 (length file.bytes) (written_on file.attributes bytes) (written-alone file.attributes bytes)
        (written-worked (length file.bytes) file.attributes bytes few within)

pub json-gives : (destination : Destination) (names : List (List ℕ)) (file : TakenFile) → All IsUtf8 names → IsTextual file → IsOutcome 2 (length file.bytes ∷ []) (attributes_to_json destination names file)
json-gives destination names file texts is =
    let json = json_of names file in
    or-given-up-gives 2 1 (length file.bytes) file (noted_in destination file json) (omega arith) is.attributes
    (noted-gives destination file json (object-text (listed names file) (listed-texts names file texts is)) is.attributes)
