-- That sessions of each type end all files that they took, in turn.
use Rattle.std.proofs.Common.{◌≡◌, ℕ, zero, suc, ◌<◌, Bool, true, false, List, [], ◌∷◌, map, length, refl, arith}
use Rattle.std.specs.Prelude.{Option, Some, None, IfSome, ◌==◌, ◌||◌, ◌&&◌, cond, codes, option_map, replicate, slice_get}
use Rattle.std.specs.Str.{is_utf8}
use Rattle.std.proofs.lemmas.List.Elements.{All-nil, All-cons}
use Rattle.flowfile_record.specs.Attributes.{AttributeMap}
use Rattle.flowfile_record.specs.Outcome.{AreInTurn}
use Rattle.flowfile_record.specs.declared.worked.Body.TheVariants.{New}
use Rattle.flowfile_record.specs.declared.worked.Origin.TheVariants.{Taken, Cloned}
use Rattle.flowfile_record.specs.declared.worked.Outcome.{Outcome}
use Rattle.flowfile_record.specs.declared.worked.Worked.{Worked}
use Rattle.machine_model.specs.declared.given.Given.{Given}
use Rattle.machine_model.specs.declared.kind.Conflict.{Conflict}
use Rattle.machine_model.specs.declared.kind.Destination.{Destination}
use Rattle.machine_model.specs.declared.kind.Destination.TheVariants.{Attribute, Content}
use Rattle.machine_model.specs.declared.kind.Conflict.TheVariants.{Replace, Ignore, Fail}
use Rattle.machine_model.specs.declared.kind.Kind.TheVariants.{GetFile, GenerateFlowFile, PutFile, UpdateAttribute, RouteOnAttribute, AttributesToJson, DuplicateFlowFile, CryptographicHashContent, SplitText, ReplaceText, ExtractText, RouteOnContent, MergeContent, SegmentContent, ModifyBytes}
use Rattle.machine_model.specs.Acting.{act, received, put, put_unless_there, name_in}
use Rattle.machine_model.specs.Making.{TakenFile, alone, passed_on, clone_of, found_in, may_have, with_set, as_content, or_given_up}
use Rattle.machine_model.specs.UpdateAttribute.{update, updated}
use Rattle.machine_model.specs.RouteOnAttribute.{route, routed, routed_file, routed_clone, true_places, with_clones}
use Rattle.machine_model.specs.AttributesToJson.{attributes_to_json, json_of, noted_in, written_on}
use Rattle.machine_model.specs.DuplicateFlowFile.{duplicate, duplicated}
use Rattle.machine_model.specs.CryptographicHashContent.{hash_content, hashed}
use Rattle.machine_model.specs.ModifyBytes.{modify, without_ends}
use Rattle.machine_model.specs.Parts.{groups_of}
use Rattle.machine_model.specs.SegmentContent.{segment, bytes_together}
use Rattle.machine_model.specs.SplitText.{split, lines_of, lines_together}
use Rattle.machine_model.specs.RouteOnContent.{route_by_content, found_places}
use Rattle.machine_model.specs.Laws.{EndsAllInTurn, ActsEndAllInTurn}
use Rattle.machine_model.proofs.InTurn.{merge-turn, parts-turn}
use Rattle.machine_model.specs.ReplaceText.{replace_text, replaced_content}
use Rattle.machine_model.specs.ExtractText.{extract_text, extracted, any_finds}
use Rattle.machine_model.proofs.Options.{if_where}
use Rattle.machine_model.proofs.Outcomes.{IsMade, taken-then-made}
use Rattle.machine_model.proofs.Tally.{Each}

received-ends : (count : ℕ) (name bytes : Option (List ℕ)) → count ≡ 0 → IfSome (received name bytes) (EndsAllInTurn count)
received-ends count (Some name) (Some bytes) none = (omega arith, All-nil (λ parent. parent < 0), omega arith)
received-ends count (Some name) None none = tt
received-ends count None bytes none = tt

-- one file that was taken, and passed on
pub passed_alone : (attributes : AttributeMap) (penalised : Bool) (relationship : ℕ) → AreInTurn 0 1 (passed_on 0 attributes penalised relationship ∷ [])
passed_alone attributes penalised relationship = taken-then-made (λ place (taken : ℕ). passed_on place attributes penalised relationship) (λ place taken. refl) (0 ∷ []) [] tt

unless-there-ends : (conflict : Conflict) (there : Bool) (file : TakenFile) (name : List ℕ) → EndsAllInTurn 1 (put_unless_there conflict there file name)
unless-there-ends conflict false file name = passed_alone file.attributes false 0
unless-there-ends Replace true file name = passed_alone file.attributes false 0
unless-there-ends Ignore true file name = passed_alone file.attributes false 0
unless-there-ends Fail true file name = passed_alone file.attributes true 1

put-ends : (conflict : Conflict) (there : Bool) (file : TakenFile) (name : Option (List ℕ)) → EndsAllInTurn 1 (put conflict there file name)
put-ends conflict there file None = passed_alone file.attributes true 1
put-ends conflict there file (Some name) = unless-there-ends conflict there file name

put-file : (conflict : Conflict) (taken : List TakenFile) (given : Given) → length taken ≡ 1 → IfSome (act (PutFile conflict) taken given) (EndsAllInTurn (length taken))
put-file conflict [] given one = tt
put-file conflict (file ∷ []) given one = put-ends conflict given.there file (name_in file.attributes)
put-file conflict (file ∷ other ∷ rest) given one = absurd (omega arith)

-- ---- one file that was taken, and what is made of it

-- it goes on, and made files stand behind it
pub passed-then-made : (attributes : AttributeMap) (relationship : ℕ) (made : List Worked) → Each (IsMade 1) made → AreInTurn 0 1 (passed_on 0 attributes false relationship ∷ made)
passed-then-made attributes relationship made all = taken-then-made (λ place (taken : ℕ). passed_on place attributes false relationship) (λ place taken. refl) (0 ∷ []) made all

pub routed-then-made : (attributes : AttributeMap) (relationship : ℕ) (made : List Worked) → Each (IsMade 1) made → AreInTurn 0 1 (routed_file attributes relationship ∷ made)
routed-then-made attributes relationship made all =
    taken-then-made (λ place (taken : ℕ). record (passed_on place attributes false relationship) { routed = Some relationship }) (λ place taken. refl) (0 ∷ []) made all

pub written-alone : (attributes : AttributeMap) (bytes : List ℕ) → AreInTurn 0 1 (written_on attributes bytes ∷ [])
written-alone attributes bytes =
    taken-then-made (λ place (taken : ℕ). record (passed_on place attributes false 0) { body = New bytes; written = true }) (λ place taken. refl) (0 ∷ []) [] tt

pub is-clone : (attributes : AttributeMap) (relationship : ℕ) → IsMade 1 (clone_of 0 attributes relationship)
is-clone attributes relationship = record {
  as_made = refl;
  parents = All-cons (λ parent. parent < 1) 0 [] (omega arith) (All-nil (λ parent. parent < 1));
}

is-routed : (attributes : AttributeMap) (relationship : ℕ) → IsMade 1 (routed_clone attributes relationship)
is-routed attributes relationship = record {
  as_made = refl;
  parents = All-cons (λ parent. parent < 1) 0 [] (omega arith) (All-nil (λ parent. parent < 1));
}

pub are-clones : (n : ℕ) (file : Worked) → IsMade 1 file → Each (IsMade 1) (replicate n file)
are-clones zero file made = tt
are-clones (suc n) file made = (made, are-clones n file made)

pub are-routed : (attributes : AttributeMap) (others : List ℕ) → Each (IsMade 1) (map (routed_clone attributes) others)
are-routed attributes [] = tt
are-routed attributes (relationship ∷ others) = (is-routed attributes relationship, are-routed attributes others)

or-given-up-ends : (relationship : ℕ) (file : TakenFile) (made : Option Outcome) → IfSome made (EndsAllInTurn 1) → EndsAllInTurn 1 (or_given_up relationship (file ∷ []) made)
or-given-up-ends relationship file (Some outcome) ends = ends
or-given-up-ends relationship file None ends = passed_alone file.attributes false relationship

with-attributes-ends : (set : Option AttributeMap) → IfSome (option_map (λ attributes. alone (passed_on 0 attributes false 0)) set) (EndsAllInTurn 1)
with-attributes-ends (Some attributes) = passed_alone attributes false 0
with-attributes-ends None = tt

with-content-ends : (attributes : AttributeMap) (content : Option (List ℕ)) → IfSome (option_map (λ bytes. alone (written_on attributes bytes)) content) (EndsAllInTurn 1)
with-content-ends attributes (Some bytes) = written-alone attributes bytes
with-content-ends attributes None = tt

noted-ends : (destination : Destination) (file : TakenFile) (json : List ℕ) → IfSome (noted_in destination file json) (EndsAllInTurn 1)
noted-ends Attribute file json = with-attributes-ends (with_set (Taken 0) file.attributes (codes "JSONAttributes", json))
noted-ends Content file json = with-content-ends file.attributes (as_content json)

duplicated-ends : (copies : ℕ) (file : TakenFile) → IfSome (duplicated copies file) (EndsAllInTurn 1)
duplicated-ends copies file =
    let clones = replicate copies (clone_of 0 file.attributes 0) in
    elim (may_have (Cloned 0) file.attributes) as (λ b. IfSome (cond b (Some (record { files = passed_on 0 file.attributes false 0 ∷ clones; sent = None })) None) (EndsAllInTurn 1)) [
      | true ↦ passed-then-made file.attributes 0 clones (are-clones copies (clone_of 0 file.attributes 0) (is-clone file.attributes 0))
      | false ↦ tt
    ]

with-clones-ends : (attributes : AttributeMap) (first : ℕ) (others : List ℕ) → IfSome (with_clones attributes first others) (EndsAllInTurn 1)
with-clones-ends attributes first others =
    elim ((length others == 0) || may_have (Cloned 0) attributes) as (λ b. IfSome (cond b (Some (record { files = routed_file attributes first ∷ map (routed_clone attributes) others; sent = None })) None) (EndsAllInTurn 1)) [
      | true ↦ routed-then-made attributes first (map (routed_clone attributes) others) (are-routed attributes others)
      | false ↦ tt
    ]

routed-ends : (unmatched : ℕ) (file : TakenFile) (places : List ℕ) → EndsAllInTurn 1 (routed unmatched file places)
routed-ends unmatched file [] = routed-then-made file.attributes unmatched [] tt
routed-ends unmatched file (first ∷ others) = or-given-up-ends unmatched file (with_clones file.attributes first others) (with-clones-ends file.attributes first others)

one-file : (makes : TakenFile → Outcome) → ((file : TakenFile) → EndsAllInTurn 1 (makes file)) → (taken : List TakenFile) → length taken ≡ 1
    → IfSome (option_map makes (slice_get taken 0)) (EndsAllInTurn (length taken))
one-file makes ends [] one = tt
one-file makes ends (file ∷ []) one = ends file
one-file makes ends (file ∷ other ∷ rest) one = absurd (omega arith)

pub act-ends : ActsEndAllInTurn
act-ends (GetFile pattern) taken given may = received-ends (length taken) given.file given.bytes may
act-ends (GenerateFlowFile count text) taken given may = (omega arith, All-nil (λ parent. parent < 0), omega arith)
act-ends (PutFile conflict) taken given may = put-file conflict taken given may
act-ends (UpdateAttribute own) taken given may =
    one-file (update own) (λ file. or-given-up-ends 1 file (updated own file) (with-attributes-ends _)) taken may
act-ends (RouteOnAttribute own) taken given may =
    one-file (route own) (λ file. routed-ends (length own) file (true_places (found_in file) own)) taken may
act-ends (AttributesToJson destination names) taken given may =
    one-file (attributes_to_json destination names)
    (λ file. or-given-up-ends 1 file (noted_in destination file (json_of names file)) (noted-ends destination file (json_of names file))) taken may
act-ends (DuplicateFlowFile copies) taken given may =
    one-file (duplicate copies) (λ file. or-given-up-ends 0 file (duplicated copies file) (duplicated-ends copies file)) taken may
act-ends CryptographicHashContent taken given may =
    one-file hash_content (λ file. or-given-up-ends 1 file (hashed file) (with-attributes-ends _)) taken may
act-ends (SplitText lines) taken given may =
    one-file (split lines) (λ file. parts-turn 0 1 file (map lines_together (groups_of lines (lines_of file.bytes)))) taken may
act-ends (ReplaceText replacement) taken given may =
    one-file (replace_text replacement)
    (λ file. or-given-up-ends 1 file (option_map (λ bytes. alone (written_on file.attributes bytes)) (replaced_content replacement file.bytes))
    (with-content-ends file.attributes (replaced_content replacement file.bytes))) taken may
act-ends (ExtractText own) taken given may =
    one-file (extract_text own)
    (λ file. or-given-up-ends 1 file (extracted own file) (if_where (is_utf8 file.bytes && any_finds file.bytes own) _ (EndsAllInTurn 1) (λ found. with-attributes-ends _))) taken may
act-ends (RouteOnContent requirement own) taken given may =
    one-file (route_by_content own) (λ file. routed-ends (length own) file (found_places file.bytes own)) taken may
act-ends (MergeContent strategy minimum maximum) taken given may = merge-turn strategy taken
act-ends (SegmentContent size) taken given may =
    one-file (segment size) (λ file. parts-turn 1 0 file (map bytes_together (groups_of size file.bytes))) taken may
act-ends (ModifyBytes start end) taken given may =
    one-file (modify start end) (λ file. written-alone file.attributes (without_ends start end file.bytes)) taken may
