-- That what processors make by the text of the content that they took is an outcome of theirs.
use Rattle.std.proofs.Common.{◌≡◌, ℕ, ◌<◌, ◌≤◌, Bool, true, false, cond, not, ◌&&◌, List, [], ◌∷◌, ◌++◌, map, length, arith}
use Rattle.std.specs.Prelude.{All, IfSome, None, nat_le, codes, option_and_then, option_map, slice_get}
use Rattle.std.specs.List.{list_all}
use Rattle.std.specs.Str.{IsUtf8, is_utf8}
use Rattle.std.proofs.lemmas.Bool.{and_parts, leb-true}
use Rattle.std.proofs.lemmas.List.{length-append, length-map}
use Rattle.std.proofs.lemmas.List.Elements.{All-nil, All-cons, All-head, All-tail}
use Rattle.std.proofs.lemmas.Str.{IsUtf8-from_is_utf8}
use Rattle.flowfile_record.specs.Attributes.{AttributeMap, IsWithinLimits, has_key_length}
use Rattle.flowfile_record.specs.Outcome.{IsOutcome}
use Rattle.flowfile_record.specs.declared.TheConstants.{CONTENT_MAX}
use Rattle.flowfile_record.specs.declared.worked.Origin.TheVariants.{Taken}
use Rattle.machine_model.specs.declared.kind.Kind.TheVariants.{RouteOnContent}
use Rattle.machine_model.specs.declared.kind.MatchRequirement.{MatchRequirement}
use Rattle.machine_model.specs.declared.kind.OwnPattern.{OwnPattern}
use Rattle.machine_model.specs.declared.kind.Replacement.{Replacement}
use Rattle.machine_model.specs.AttributesToJson.{written_on}
use Rattle.machine_model.specs.ExtractText.{any_finds, as_named, extract_text, extracted, found_pairs}
use Rattle.machine_model.specs.Kinds.{relationships_of, is_among}
use Rattle.machine_model.specs.Making.{TakenFile, alone, as_content, passed_on, with_all_set}
use Rattle.machine_model.specs.ReplaceText.{replace_text, replaced_content, text_replaced}
use Rattle.machine_model.specs.RouteOnContent.{is_found_in, found_places, route_by_content}
use Rattle.machine_model.specs.Sound.{are_own_names, are_own_relationships}
use Rattle.machine_model.proofs.Acted.{written-alone}
use Rattle.machine_model.proofs.AttributesWhole.{alone-outcome, one-gives, or-given-up-gives, places-below, routed-gives}
use Rattle.machine_model.proofs.ExtractedTexts.{found-texts}
use Rattle.machine_model.proofs.JsonTexts.{IsTextPair}
use Rattle.machine_model.proofs.Options.{if_and_then, if_at, if_map, if_when, if_where}
use Rattle.machine_model.proofs.OwnNames.{are_names}
use Rattle.machine_model.proofs.SetWhole.{CanBeSet, all-set-within, with-attributes-gives, written-worked}

-- ---- contents that are written

content-short : (is_text : Bool) (bytes : List ℕ) → IfSome (cond is_text (as_content bytes) None) (λ content. length content ≤ CONTENT_MAX)
content-short is_text bytes =
    if_where is_text (as_content bytes) (λ content. length content ≤ CONTENT_MAX)
    (λ is. if_when (nat_le (length bytes) CONTENT_MAX) bytes (λ content. length content ≤ CONTENT_MAX) (leb-true (length bytes) CONTENT_MAX))

pub replace-gives : (replacement : Replacement) (file : TakenFile) → IsWithinLimits file.attributes → IsOutcome 2 (length file.bytes ∷ []) (replace_text replacement file)
replace-gives replacement file within =
    let size = length file.bytes in
    let content = replaced_content replacement file.bytes in
    or-given-up-gives 2 1 size file (option_map (λ bytes. alone (written_on file.attributes bytes)) content) (omega arith) within
    (if_map (λ (bytes : List ℕ). alone (written_on file.attributes bytes)) content (IsOutcome 2 (size ∷ []))
    (λ bytes there. alone-outcome 2 size (written_on file.attributes bytes) (written-alone file.attributes bytes)
    (written-worked size file.attributes bytes
    (if_at content bytes (λ content. length content ≤ CONTENT_MAX) there (content-short (is_utf8 file.bytes) (text_replaced replacement file.bytes))) within)))

-- ---- attributes that are found

all-can : (pairs : List (List ℕ × List ℕ)) → list_all (λ pair. has_key_length pair.0) pairs ≡ true → All IsTextPair pairs → All CanBeSet pairs
all-can [] sized texts = All-nil CanBeSet
all-can (pair ∷ pairs) sized texts =
    let parts = and_parts (has_key_length pair.0) (list_all (λ pair. has_key_length pair.0) pairs) sized in
    let text = All-head IsTextPair pair pairs texts in
    All-cons CanBeSet pair pairs (record { key = parts.0; key_text = text.name; value_text = text.value })
    (all-can pairs parts.1 (All-tail IsTextPair pair pairs texts))

pub extract-gives : (own : List OwnPattern) → All IsUtf8 (map (λ property. property.name) own) → (file : TakenFile) → IsWithinLimits file.attributes
    → IsOutcome 2 (length file.bytes ∷ []) (extract_text own file)
extract-gives own named file within =
    let text = file.bytes in
    let size = length text in
    let found = found_pairs text own in
    let set = option_and_then (with_all_set (Taken 0) file.attributes) (as_named found) in
    or-given-up-gives 2 1 size file (extracted own file) (omega arith) within
    (if_where (is_utf8 text && any_finds text own) (option_map (λ (attributes : AttributeMap). alone (passed_on 0 attributes false 0)) set) (IsOutcome 2 (size ∷ []))
    (λ both. let is = IsUtf8-from_is_utf8 text (and_parts (is_utf8 text) (any_finds text own) both).0 in
    with-attributes-gives size set
    (if_and_then (with_all_set (Taken 0) file.attributes) (as_named found) IsWithinLimits
    (λ pairs made. all-set-within (Taken 0) file.attributes pairs
    (if_at (as_named found) pairs (All CanBeSet) made
    (if_when (list_all (λ (pair : List ℕ × List ℕ). has_key_length pair.0) found) found (All CanBeSet) (λ sized. all-can found sized (found-texts text is own named)))) within))))

-- ---- routes

pub route-by-content-gives : (requirement : MatchRequirement) (own : List OwnPattern) (taken : List TakenFile) → are_own_relationships (map (λ property. property.name) own) ≡ true → length taken ≡ 1
    → All (λ file. IsWithinLimits file.attributes) taken
    → IfSome (option_map (route_by_content own) (slice_get taken 0)) (IsOutcome (length (relationships_of (RouteOnContent requirement own))) (map (λ file. length file.bytes) taken))
route-by-content-gives requirement own taken are one within =
    let names = map (λ (property : OwnPattern). property.name) own in
    let relationships = length (names ++ codes "unmatched" ∷ []) in
    let few = (are_names (λ property. property.name) own (and_parts (are_own_names names) (not (is_among (codes "unmatched") names)) are).0).0 in
    let more : length own < relationships = omega (arith, length-append names (codes "unmatched" ∷ []), length-map own (λ (property : OwnPattern). property.name)) in
    one-gives relationships (route_by_content own) (λ file. IsWithinLimits file.attributes)
    (λ file within. let places = places-below (is_found_in file.bytes) 0 relationships own (omega arith) in
    routed-gives relationships (length own) file (found_places file.bytes own) more (record { few = omega (arith, places.few); each = places.each }) within) taken one within
