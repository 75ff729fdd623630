-- That a session of each type ends with an outcome of its relationships, over what it took.
use Rattle.std.proofs.Common.{◌&&◌, ◌≡◌, ℕ, ◌^◌, ◌<◌, ◌≤◌, Bool, true, false, not, List, [], ◌∷◌, ◌++◌, map, length, refl, ◌∙◌, arith}
use Rattle.std.specs.Prelude.{nat_le, ◌&&◌, All, IfSome, Option, Some, None, option_map, slice_get, codes, decimal}
use Rattle.std.specs.FinMap.{get}
use Rattle.std.specs.Str.{IsUtf8}
use Rattle.std.proofs.lemmas.Bool.{leb-true, and_parts}
use Rattle.std.proofs.lemmas.Fmt.{IsAscii-decimal, length-decimal-le}
use Rattle.std.proofs.lemmas.List.{length-append, length-map}
use Rattle.std.proofs.lemmas.List.Elements.{All-nil, All-head}
use Rattle.std.proofs.lemmas.Str.{IsUtf8-from_ascii}
use Rattle.flowfile_record.specs.Attributes.{AttributeMap, IsPair, IsWithinLimits}
use Rattle.flowfile_record.specs.Name.{IsName}
use Rattle.flowfile_record.specs.NameLemmas.{name-most, name-utf8}
use Rattle.flowfile_record.specs.Outcome.{IsOutcome}
use Rattle.flowfile_record.specs.declared.TheConstants.{CONTENT_MAX}
use Rattle.flowfile_record.specs.declared.worked.Origin.TheVariants.{Created, Received}
use Rattle.flowfile_record.specs.declared.worked.Sent.{Sent}
use Rattle.expr_lang.specs.View.{tree_of}
use Rattle.expr_lang.specs.declared.syntax.Expr.{Expr}
use Rattle.machine_model.specs.declared.given.Given.{Given}
use Rattle.machine_model.specs.declared.kind.Conflict.{Conflict}
use Rattle.machine_model.specs.declared.kind.Conflict.TheVariants.{Replace, Ignore, Fail}
use Rattle.machine_model.specs.declared.kind.Kind.TheVariants.{GetFile, GenerateFlowFile, PutFile, UpdateAttribute, RouteOnAttribute, AttributesToJson, DuplicateFlowFile, CryptographicHashContent, SplitText, ReplaceText, ExtractText, RouteOnContent, MergeContent, SegmentContent, ModifyBytes}
use Rattle.machine_model.specs.declared.kind.MergeStrategy.{MergeStrategy}
use Rattle.machine_model.specs.declared.kind.MergeStrategy.TheVariants.{BinPacking, Defragment}
use Rattle.machine_model.specs.declared.kind.OwnExpression.{OwnExpression}
use Rattle.flowfile_record.specs.declared.limits.TheConstants.{TAKEN_MAX}
use Rattle.machine_model.specs.Acting.{act, received, received_attributes, generated, generated_text, generated_attributes, put, put_unless_there, name_in}
use Rattle.machine_model.specs.Making.{TakenFile, made_file, passed_on}
use Rattle.machine_model.specs.Kinds.{relationships_of, is_among}
use Rattle.machine_model.specs.Sound.{within, are_entries_sound, are_own_names, are_own_relationships}
use Rattle.machine_model.specs.UpdateAttribute.{update}
use Rattle.machine_model.specs.RouteOnAttribute.{route}
use Rattle.machine_model.specs.AttributesToJson.{attributes_to_json}
use Rattle.machine_model.specs.DuplicateFlowFile.{duplicate}
use Rattle.machine_model.specs.CryptographicHashContent.{hash_content}
use Rattle.machine_model.specs.ModifyBytes.{modify}
use Rattle.machine_model.specs.SegmentContent.{segment}
use Rattle.machine_model.specs.SplitText.{split}
use Rattle.machine_model.specs.ReplaceText.{replace_text}
use Rattle.machine_model.specs.ExtractText.{extract_text}
use Rattle.machine_model.specs.Laws.{ActsGiveOutcomes}
use Rattle.machine_model.proofs.Acted.{passed_alone}
use Rattle.machine_model.proofs.ShortTexts.{text-short}
use Rattle.machine_model.proofs.AttributesWhole.{one-gives, duplicate-gives, route-gives}
use Rattle.machine_model.proofs.Merged.{merge-gives}
use Rattle.machine_model.proofs.Parted.{IsTakenFile, all-taken, modify-gives, segment-gives, split-gives}
use Rattle.machine_model.proofs.SetWhole.{IsTextual, update-gives, hash-gives, json-gives}
use Rattle.machine_model.proofs.PatternsWhole.{replace-gives, extract-gives, route-by-content-gives}
use Rattle.machine_model.proofs.OwnNames.{are_names}
use Rattle.machine_model.proofs.OneOutcome.{two_sized, two_pairs, literal, path_pair, made-worked, passed-worked, one-outcome}

received-gives : (sizes : List ℕ) (name bytes : Option (List ℕ)) → length sizes ≡ 0 → IfSome name IsName → IfSome bytes (λ bytes. length bytes ≤ CONTENT_MAX) → IfSome (received name bytes) (IsOutcome 1 sizes)
received-gives sizes (Some name) (Some bytes) none is_name short =
    let named : IsPair (codes "filename", name) = record { key = refl; key_text = literal (codes "filename") refl; value_text = name-utf8 name is_name } in
    one-outcome 1 sizes (made_file Received (received_attributes name) bytes false 0) None (omega arith)
    (made-worked 1 sizes Received (received_attributes name) bytes false tt (omega arith) short
    (two_pairs (codes "filename") name (codes "path") (codes "./") named path_pair)
    (two_sized (codes "filename") name (codes "path") (codes "./") 1000 (omega (arith, name-most name is_name))))
    (omega arith, All-nil (λ parent. parent < 0), omega arith) tt
received-gives sizes (Some name) None none is_name short = tt
received-gives sizes None bytes none is_name short = tt

generated-gives : (sizes : List ℕ) (custom_text : Expr) (index : ℕ) → length sizes ≡ 0 → index < 2 ^ 64 → length (generated_text custom_text index) ≤ CONTENT_MAX → IsOutcome 1 sizes (generated custom_text index)
generated-gives sizes custom_text index none below short =
    let counted : IsPair (codes "generate.index", decimal index) = record {
      key = refl;
      key_text = literal (codes "generate.index") refl;
      value_text = IsUtf8-from_ascii (decimal index) (IsAscii-decimal index below);
    } in
    let digits : length (decimal index) ≤ 20 = length-decimal-le 20 index (omega arith) (omega arith) below in
    one-outcome 1 sizes (made_file Created (generated_attributes index) (generated_text custom_text index) true 0) None (omega arith)
    (made-worked 1 sizes Created (generated_attributes index) (generated_text custom_text index) true tt (omega arith) short
    (two_pairs (codes "path") (codes "./") (codes "generate.index") (decimal index) path_pair counted)
    (two_sized (codes "path") (codes "./") (codes "generate.index") (decimal index) 1000 (omega arith)))
    (omega arith, All-nil (λ parent. parent < 0), omega arith) tt

-- one file that was taken, and passed on
passed-gives : (size : ℕ) (attributes : AttributeMap) (penalised : Bool) (relationship : ℕ) (sent : Option Sent) → relationship < 2 → IsWithinLimits attributes → IfSome sent (λ sent. sent.place < 1)
    → IsOutcome 2 (size ∷ []) (record { files = passed_on 0 attributes penalised relationship ∷ []; sent = sent })
passed-gives size attributes penalised relationship sent there within first =
    one-outcome 2 (size ∷ []) (passed_on 0 attributes penalised relationship) sent (omega arith) (passed-worked 2 relationship size attributes penalised there within)
    (passed_alone attributes penalised relationship) first

unless-there-gives : (size : ℕ) (conflict : Conflict) (there : Bool) (file : TakenFile) (name : List ℕ) → IsWithinLimits file.attributes → IsOutcome 2 (size ∷ []) (put_unless_there conflict there file name)
unless-there-gives size conflict false file name within = passed-gives size file.attributes false 0 _ (omega arith) within (omega arith)
unless-there-gives size Replace true file name within = passed-gives size file.attributes false 0 _ (omega arith) within (omega arith)
unless-there-gives size Ignore true file name within = passed-gives size file.attributes false 0 None (omega arith) within tt
unless-there-gives size Fail true file name within = passed-gives size file.attributes true 1 None (omega arith) within tt

put-gives : (size : ℕ) (conflict : Conflict) (there : Bool) (file : TakenFile) (name : Option (List ℕ)) → IsWithinLimits file.attributes → IsOutcome 2 (size ∷ []) (put conflict there file name)
put-gives size conflict there file None within = passed-gives size file.attributes true 1 None (omega arith) within tt
put-gives size conflict there file (Some name) within = unless-there-gives size conflict there file name within

put-file : (conflict : Conflict) (taken : List TakenFile) (given : Given) → length taken ≡ 1 → All (λ file. IsWithinLimits file.attributes) taken
    → IfSome (act (PutFile conflict) taken given) (IsOutcome 2 (map (λ file. length file.bytes) taken))
put-file conflict [] given one within = tt
put-file conflict (file ∷ []) given one within =
    put-gives (length file.bytes) conflict given.there file (name_in file.attributes) (All-head (λ (file : TakenFile). IsWithinLimits file.attributes) file [] within)
put-file conflict (file ∷ other ∷ rest) given one within = absurd (omega arith)

-- ---- own properties, and files of texts

all-textual : (taken : List TakenFile) → All (λ file. IsWithinLimits file.attributes) taken → All (λ file. IsUtf8 file.uuid) taken → All IsTextual taken
all-textual taken within texts place default below = record { attributes = within place default below; uuid = texts place default below }

route-all : (own : List OwnExpression) (taken : List TakenFile) → are_own_relationships (map (λ property. property.name) own) ≡ true → length taken ≡ 1
    → All (λ file. IsWithinLimits file.attributes) taken
    → IfSome (option_map (route own) (slice_get taken 0)) (IsOutcome (length (relationships_of (RouteOnAttribute own))) (map (λ file. length file.bytes) taken))
route-all own taken are one within =
    let names = map (λ (property : OwnExpression). property.name) own in
    let relationships = length (names ++ codes "unmatched" ∷ []) in
    let few = (are_names (λ property. property.name) own (and_parts (are_own_names names) (not (is_among (codes "unmatched") names)) are).0).0 in
    let more : length own < relationships = omega (arith, length-append names (codes "unmatched" ∷ []), length-map own (λ (property : OwnExpression). property.name)) in
    one-gives relationships (route own) (λ file. IsWithinLimits file.attributes) (λ file within. route-gives own relationships file more few within) taken one within

-- a bin has no more files than its maximum
bin-few : (strategy : MergeStrategy) (minimum maximum count : ℕ) → (within 1 minimum TAKEN_MAX && within 1 maximum TAKEN_MAX && are_entries_sound strategy minimum maximum) ≡ true
    → count ≤ maximum → count ≤ 1_000
bin-few strategy minimum maximum count are few =
    let bounds = and_parts (within 1 minimum TAKEN_MAX && within 1 maximum TAKEN_MAX) (are_entries_sound strategy minimum maximum) are in
    let greatest = and_parts (within 1 minimum TAKEN_MAX) (within 1 maximum TAKEN_MAX) bounds.0 in
    let most = and_parts (nat_le 1 maximum) (nat_le maximum TAKEN_MAX) greatest.1 in
    omega (arith, few, leb-true maximum TAKEN_MAX most.1)

pub act-gives : ActsGiveOutcomes
act-gives (GetFile pattern) taken given handed =
    received-gives (map (λ file. length file.bytes) taken) given.file given.bytes (length-map taken (λ (file : TakenFile). length file.bytes) ∙ handed.count) handed.name handed.bytes
act-gives (GenerateFlowFile count text) taken given handed =
    generated-gives (map (λ file. length file.bytes) taken) text given.index (length-map taken (λ (file : TakenFile). length file.bytes) ∙ handed.count) handed.index
    (omega (arith, text-short (get (generated_attributes given.index)) handed.sound.texts.0 (tree_of text) handed.sound.texts.1))
act-gives (PutFile conflict) taken given handed = put-file conflict taken given handed.count handed.attributes
act-gives (UpdateAttribute own) taken given handed =
    one-gives 2 (update own) IsTextual
    (λ file is. update-gives own file (record { lengths = (are_names (λ property. property.name) own handed.sound.ranges).1; texts = handed.names }) is) taken handed.count
    (all-textual taken handed.attributes handed.uuids)
act-gives (RouteOnAttribute own) taken given handed = route-all own taken handed.sound.ranges handed.count handed.attributes
act-gives (AttributesToJson destination names) taken given handed =
    one-gives 2 (attributes_to_json destination names) IsTextual (λ file is. json-gives destination names file handed.names is) taken handed.count
    (all-textual taken handed.attributes handed.uuids)
act-gives (DuplicateFlowFile copies) taken given handed =
    one-gives 1 (duplicate copies) (λ file. IsWithinLimits file.attributes) (λ file within. duplicate-gives copies file handed.sound.ranges within) taken handed.count handed.attributes
act-gives CryptographicHashContent taken given handed =
    one-gives 2 hash_content (λ file. IsWithinLimits file.attributes) hash-gives taken handed.count handed.attributes
act-gives (SplitText lines) taken given handed =
    one-gives 3 (split lines) IsTakenFile (split-gives lines) taken handed.count (all-taken taken handed.attributes handed.uuids handed.contents)
act-gives (ReplaceText replacement) taken given handed =
    one-gives 2 (replace_text replacement) (λ file. IsWithinLimits file.attributes) (replace-gives replacement) taken handed.count handed.attributes
act-gives (ExtractText own) taken given handed =
    one-gives 2 (extract_text own) (λ file. IsWithinLimits file.attributes) (extract-gives own handed.names) taken handed.count handed.attributes
act-gives (RouteOnContent requirement own) taken given handed = route-by-content-gives requirement own taken handed.sound.ranges handed.count handed.attributes
act-gives (MergeContent BinPacking minimum maximum) taken given handed =
    merge-gives BinPacking taken handed.count.0 (bin-few BinPacking minimum maximum (length taken) handed.sound.ranges handed.count.1)
    (all-taken taken handed.attributes handed.uuids handed.contents)
act-gives (MergeContent Defragment minimum maximum) taken given handed =
    merge-gives Defragment taken handed.count.0 handed.count.1 (all-taken taken handed.attributes handed.uuids handed.contents)
act-gives (SegmentContent size) taken given handed =
    one-gives 3 (segment size) IsTakenFile (segment-gives size) taken handed.count (all-taken taken handed.attributes handed.uuids handed.contents)
act-gives (ModifyBytes start end) taken given handed =
    one-gives 1 (modify start end) IsTakenFile (modify-gives start end) taken handed.count (all-taken taken handed.attributes handed.uuids handed.contents)
