-- What a session sends, by its processor's kind: a PutFile may send the one file that it took, and no other kind sends.
use Rattle.std.proofs.Common.{◌≡◌, ◌⊎◌, inl, inr, ⊎_elim, ℕ, Bool, true, false, List, [], ◌∷◌, map, length, refl, sym, ◌∙◌, ap, subst}
use Rattle.std.specs.Prelude.{All, Option, None, Some, IfSome, ◌==◌, ◌&&◌, ◌||◌, ◌++◌, cond, codes, nat_lt, option_map, replicate, slice_get}
use Rattle.std.specs.List.{range_with_len}
use Rattle.std.specs.Str.{is_utf8}
use Rattle.std.proofs.lemmas.List.Elements.{All-cons, All-nil}
use Rattle.flowfile_record.specs.declared.content.ContentRef.{ContentRef}
use Rattle.flowfile_record.specs.declared.flow_file.FlowFile.{FlowFile}
use Rattle.flowfile_record.specs.Attributes.{AttributeMap}
use Rattle.flowfile_record.specs.declared.limits.TheConstants.{FILES_MAX}
use Rattle.flowfile_record.specs.declared.worked.Origin.TheVariants.{Taken, Cloned, Joined}
use Rattle.flowfile_record.specs.declared.worked.Outcome.{Outcome}
use Rattle.flowfile_record.specs.declared.worked.Sent.{Sent}
use Rattle.machine_model.specs.declared.given.Given.{Given}
use Rattle.machine_model.specs.declared.kind.Conflict.{Conflict}
use Rattle.machine_model.specs.declared.kind.Conflict.TheVariants.{Replace, Ignore, Fail}
use Rattle.machine_model.specs.declared.kind.Destination.{Destination}
use Rattle.machine_model.specs.declared.kind.Destination.TheVariants.{Attribute, Content}
use Rattle.machine_model.specs.declared.kind.Kind.{Kind}
use Rattle.machine_model.specs.declared.kind.Kind.TheVariants.{GetFile, GenerateFlowFile, PutFile, UpdateAttribute, RouteOnAttribute, AttributesToJson, DuplicateFlowFile, CryptographicHashContent, SplitText, ReplaceText, ExtractText, RouteOnContent, MergeContent, SegmentContent, ModifyBytes}
use Rattle.machine_model.specs.declared.kind.MergeStrategy.{MergeStrategy}
use Rattle.machine_model.specs.declared.kind.OwnPattern.{OwnPattern}
use Rattle.machine_model.specs.Acting.{act, name_in, put, received}
use Rattle.machine_model.specs.Making.{TakenFile, alone, made_file, passed_from, passed_on, clone_of, found_in, may_have, with_set, as_content, or_given_up}
use Rattle.machine_model.specs.UpdateAttribute.{update, updated}
use Rattle.machine_model.specs.RouteOnAttribute.{route, routed, routed_file, routed_clone, true_places, with_clones}
use Rattle.machine_model.specs.AttributesToJson.{attributes_to_json, json_of, noted_in, written_on}
use Rattle.machine_model.specs.DuplicateFlowFile.{duplicate, duplicated}
use Rattle.machine_model.specs.CryptographicHashContent.{hash_content, hashed}
use Rattle.machine_model.specs.SplitText.{split, lines_of, lines_together}
use Rattle.machine_model.specs.ReplaceText.{replace_text, replaced_content}
use Rattle.machine_model.specs.ExtractText.{extract_text, extracted, any_finds}
use Rattle.machine_model.specs.RouteOnContent.{route_by_content, found_places}
use Rattle.machine_model.specs.MergeContent.{merge, joined, joined_attributes, joined_content, may_join}
use Rattle.machine_model.specs.SegmentContent.{segment, bytes_together}
use Rattle.machine_model.specs.ModifyBytes.{modify}
use Rattle.machine_model.specs.Parts.{Piece, groups_of, parted}
use Rattle.machine_model.proofs.Options.{if_and_then, if_map, if_where}
use Rattle.process_session.specs.declared.file.Source.{Source}
use Rattle.settlement.specs.Contents.{IsBodyWithin}
use Rattle.settlement.specs.Handed.{AreReadSources}
use Rattle.engine_session.specs.Sending.{sources_left}

-- ---- which kinds send

nothing_received : (name bytes : Option (List ℕ)) (outcome : Outcome) → received name bytes ≡ Some outcome → outcome.sent ≡ None
nothing_received None bytes outcome is = absurd cc
nothing_received (Some name) None outcome is = absurd cc
nothing_received (Some name) (Some bytes) outcome is = nothing _ outcome is refl
  where
    nothing : (a b : Outcome) → ◌≡◌ {A = Option Outcome} (Some a) (Some b) → a.sent ≡ None → b.sent ≡ None
    nothing a b is none = cc

some_is : (a b : Outcome) → ◌≡◌ {A = Option Outcome} (Some a) (Some b) → a ≡ b
some_is a b is = cc

-- what makes one outcome of one file, and sends nothing
of_file : (makes : TakenFile → Outcome) → ((file : TakenFile) → (makes file).sent ≡ None) → (found : Option TakenFile) (outcome : Outcome) → option_map makes found ≡ Some outcome → outcome.sent ≡ None
of_file makes each None outcome is = absurd cc
of_file makes each (Some file) outcome is = ap (λ (o : Outcome). o.sent) (sym (some_is (makes file) outcome is)) ∙ each file

abbrev SendsNothing : Option Outcome → Type 0
SendsNothing made = IfSome made (λ outcome. outcome.sent ≡ None)

or_given_up_sends : (relationship : ℕ) (taken : List TakenFile) (made : Option Outcome) → SendsNothing made → (or_given_up relationship taken made).sent ≡ None
or_given_up_sends relationship taken (Some outcome) nothing = nothing
or_given_up_sends relationship taken None nothing = refl

set_sends : (set : Option AttributeMap) → SendsNothing (option_map (λ attributes. alone (passed_on 0 attributes false 0)) set)
set_sends (Some attributes) = refl
set_sends None = tt

written_sends : (file : TakenFile) (content : Option (List ℕ)) → SendsNothing (option_map (λ bytes. alone (written_on file.attributes bytes)) content)
written_sends file (Some bytes) = refl
written_sends file None = tt

noted_sends : (destination : Destination) (file : TakenFile) (json : List ℕ) → SendsNothing (noted_in destination file json)
noted_sends Attribute file json = set_sends (with_set (Taken 0) file.attributes (codes "JSONAttributes", json))
noted_sends Content file json = written_sends file (as_content json)

duplicated_sends : (copies : ℕ) (file : TakenFile) → SendsNothing (duplicated copies file)
duplicated_sends copies file =
    elim (may_have (Cloned 0) file.attributes) as (λ b. SendsNothing (cond b (Some (record { files = passed_on 0 file.attributes false 0 ∷ replicate copies (clone_of 0 file.attributes 0); sent = None })) None)) [
      | true ↦ refl
      | false ↦ tt
    ]

clones_send : (attributes : AttributeMap) (first : ℕ) (others : List ℕ) → SendsNothing (with_clones attributes first others)
clones_send attributes first others =
    elim ((length others == 0) || may_have (Cloned 0) attributes) as (λ b. SendsNothing (cond b (Some (record { files = routed_file attributes first ∷ map (routed_clone attributes) others; sent = None })) None)) [
      | true ↦ refl
      | false ↦ tt
    ]

routed_sends : (unmatched : ℕ) (file : TakenFile) (places : List ℕ) → (routed unmatched file places).sent ≡ None
routed_sends unmatched file [] = refl
routed_sends unmatched file (first ∷ others) = or_given_up_sends unmatched (file ∷ []) (with_clones file.attributes first others) (clones_send file.attributes first others)

extracted_sends : (own : List OwnPattern) (file : TakenFile) → SendsNothing (extracted own file)
extracted_sends own file =
    if_where (is_utf8 file.bytes && any_finds file.bytes own) _ (λ outcome. outcome.sent ≡ None) (λ found. set_sends _)

parted_sends : (original parts : ℕ) (file : TakenFile) (pieces : List Piece) → SendsNothing (parted original parts file pieces)
parted_sends original parts file pieces =
    if_where (nat_lt (length pieces) FILES_MAX) _ (λ outcome. outcome.sent ≡ None) (λ few. if_map _ _ (λ outcome. outcome.sent ≡ None) (λ made is. refl))

joined_sends : (strategy : MergeStrategy) (taken : List TakenFile) → SendsNothing (joined strategy taken)
joined_sends strategy taken =
    let origin = Joined (range_with_len 0 (length taken)) in
    let whole : AttributeMap → List ℕ → Outcome = λ attributes bytes. record { files = passed_from 0 1 taken ++ made_file origin attributes bytes true 0 ∷ []; sent = None } in
    if_and_then (λ attributes. option_map (whole attributes) (joined_content taken)) (joined_attributes strategy origin taken) (λ (outcome : Outcome). outcome.sent ≡ None)
    (λ attributes is. if_map (whole attributes) (joined_content taken) (λ (outcome : Outcome). outcome.sent ≡ None) (λ bytes has. refl))

merged_sends : (strategy : MergeStrategy) (taken : List TakenFile) → SendsNothing (cond (may_join strategy taken) (joined strategy taken) None)
merged_sends strategy taken = if_where (may_join strategy taken) _ (λ outcome. outcome.sent ≡ None) (λ may. joined_sends strategy taken)

-- what sends is a PutFile
pub sends_or_puts : (kind : Kind) (taken : List TakenFile) (given : Given) (outcome : Outcome) → act kind taken given ≡ Some outcome
    → (outcome.sent ≡ None) ⊎ ((conflict : Conflict) × (kind ≡ PutFile conflict))
sends_or_puts (PutFile conflict) taken given outcome acts = inr (conflict, refl)
sends_or_puts (GetFile filter) taken given outcome acts = inl (nothing_received given.file given.bytes outcome acts)
sends_or_puts (GenerateFlowFile count text) taken given outcome acts = inl (ap (λ (o : Outcome). o.sent) (sym (some_is _ outcome acts)))
sends_or_puts (UpdateAttribute own) taken given outcome acts =
    inl (of_file (update own) (λ file. or_given_up_sends 1 (file ∷ []) (updated own file) (set_sends _)) (slice_get taken 0) outcome acts)
sends_or_puts (RouteOnAttribute own) taken given outcome acts =
    inl (of_file (route own) (λ file. routed_sends (length own) file (true_places (found_in file) own)) (slice_get taken 0) outcome acts)
sends_or_puts (AttributesToJson destination names) taken given outcome acts =
    inl (of_file (attributes_to_json destination names)
    (λ file. or_given_up_sends 1 (file ∷ []) (noted_in destination file (json_of names file)) (noted_sends destination file (json_of names file))) (slice_get taken 0) outcome acts)
sends_or_puts (DuplicateFlowFile copies) taken given outcome acts =
    inl (of_file (duplicate copies) (λ file. or_given_up_sends 0 (file ∷ []) (duplicated copies file) (duplicated_sends copies file)) (slice_get taken 0) outcome acts)
sends_or_puts CryptographicHashContent taken given outcome acts =
    inl (of_file hash_content (λ file. or_given_up_sends 1 (file ∷ []) (hashed file) (set_sends _)) (slice_get taken 0) outcome acts)
sends_or_puts (SplitText lines) taken given outcome acts =
    inl (of_file (split lines) (λ file. or_given_up_sends 2 (file ∷ []) _ (parted_sends 0 1 file (map lines_together (groups_of lines (lines_of file.bytes))))) (slice_get taken 0) outcome acts)
sends_or_puts (ReplaceText replacement) taken given outcome acts =
    inl (of_file (replace_text replacement) (λ file. or_given_up_sends 1 (file ∷ []) _ (written_sends file (replaced_content replacement file.bytes))) (slice_get taken 0) outcome acts)
sends_or_puts (ExtractText own) taken given outcome acts =
    inl (of_file (extract_text own) (λ file. or_given_up_sends 1 (file ∷ []) (extracted own file) (extracted_sends own file)) (slice_get taken 0) outcome acts)
sends_or_puts (RouteOnContent requirement own) taken given outcome acts =
    inl (of_file (route_by_content own) (λ file. routed_sends (length own) file (found_places file.bytes own)) (slice_get taken 0) outcome acts)
sends_or_puts (MergeContent strategy minimum maximum) taken given outcome acts =
    inl (ap (λ (o : Outcome). o.sent) (sym (some_is (merge strategy taken) outcome acts)) ∙ or_given_up_sends 2 taken _ (merged_sends strategy taken))
sends_or_puts (SegmentContent size) taken given outcome acts =
    inl (of_file (segment size) (λ file. or_given_up_sends 2 (file ∷ []) _ (parted_sends 1 0 file (map bytes_together (groups_of size file.bytes)))) (slice_get taken 0) outcome acts)
sends_or_puts (ModifyBytes start end) taken given outcome acts = inl (of_file (modify start end) (λ file. refl) (slice_get taken 0) outcome acts)

-- ---- what is left of the taken files

abbrev AreWithin : List Source → Outcome → Type 0
AreWithin sources outcome = All (λ file. IsBodyWithin sources file.body) outcome.files

put_within : (conflict : Conflict) (there : Bool) (file : TakenFile) (name : Option (List ℕ)) (sources : List Source) → AreWithin sources (put conflict there file name)
put_within conflict there file None sources = All-cons (λ f. IsBodyWithin sources f.body) _ [] tt (All-nil (λ f. IsBodyWithin sources f.body))
put_within conflict false file (Some name) sources = All-cons (λ f. IsBodyWithin sources f.body) _ [] tt (All-nil (λ f. IsBodyWithin sources f.body))
put_within Replace true file (Some name) sources = All-cons (λ f. IsBodyWithin sources f.body) _ [] tt (All-nil (λ f. IsBodyWithin sources f.body))
put_within Ignore true file (Some name) sources = All-cons (λ f. IsBodyWithin sources f.body) _ [] tt (All-nil (λ f. IsBodyWithin sources f.body))
put_within Fail true file (Some name) sources = All-cons (λ f. IsBodyWithin sources f.body) _ [] tt (All-nil (λ f. IsBodyWithin sources f.body))

puts_within : (conflict : Conflict) (there : Bool) (found : Option TakenFile) (outcome : Outcome) (sources : List Source)
    → option_map (λ file. put conflict there file (name_in file.attributes)) found ≡ Some outcome → AreWithin sources outcome
puts_within conflict there None outcome sources acts = absurd cc
puts_within conflict there (Some file) outcome sources acts =
    subst (AreWithin sources) (some_is _ outcome acts) (put_within conflict there file (name_in file.attributes) sources)

-- the parts that an outcome has are of what is left
pub within_left : (kind : Kind) (taken : List TakenFile) (given : Given) (outcome : Outcome) (sources : List Source) → act kind taken given ≡ Some outcome
    → All (λ file. IsBodyWithin sources file.body) outcome.files
    → All (λ file. IsBodyWithin (sources_left outcome.sent sources) file.body) outcome.files
within_left kind taken given outcome sources acts within = ⊎_elim
    (λ (none : outcome.sent ≡ None). subst (λ (s : Option Sent). AreWithin (sources_left s sources) outcome) (sym none) within)
    (λ (puts : (conflict : Conflict) × (kind ≡ PutFile conflict)).
    puts_within puts.0 given.there (slice_get taken 0) outcome (sources_left outcome.sent sources) (subst (λ (k : Kind). act k taken given ≡ Some outcome) puts.1 acts))
    (sends_or_puts kind taken given outcome acts)

-- and what is left was read
pub read_left : (bytes : ContentRef → List ℕ) (files : List FlowFile) (sources : List Source) (sent : Option Sent) → AreReadSources bytes files sources → AreReadSources bytes files (sources_left sent sources)
read_left bytes files sources None read = read
read_left bytes [] [] (Some sent) read = tt
read_left bytes [] (source ∷ sources) (Some sent) read = absurd read
read_left bytes (file ∷ files) [] (Some sent) read = absurd read
read_left bytes (file ∷ files) (source ∷ sources) (Some sent) read = (record { size = read.0.size; digest = read.0.digest; read = tt }, read.1)
