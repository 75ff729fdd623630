-- An AttributesToJson: the object of texts, and a content that is replaced.
use Rattle.std.proofs.Common.{◌≡◌, ℕ, ◌+◌, ◌≤◌, ◌<◌, Bool, true, false, cond, List, [], ◌∷◌, ◌++◌, length, drop, Option, None, Some, Ordering, Less, Equal, Greater, BTreeMap, String, Global, nat_cmp, refl, sym, ◌∙◌, ap, subst, arith}
use Rattle.std.specs.Prelude.{◌||◌, codes, nat_le, option_map, slice_get}
use Rattle.std.specs.Cmp.Lexicographic.{slice_cmp}
use Rattle.std.specs.Ordering.{match_ordering}
use Rattle.std.proofs.lemmas.Bool.{leb-false, leb-true, lt-ltb}
use Rattle.std.proofs.lemmas.Option.{get_or_from_slice_get, slice_get_within}
use Rattle.serde_json.specs.Data.{Members, no_members, member, object, put, string}
use Rattle.serde_json.specs.View.{members_view, view}
use Rattle.serde_json.specs.Written.{compact_text, has_float, members_have_float}
use Rattle.serde_json.specs.declared.value.Value.{Value, Object}
use Rattle.serde_json.proofs.Views.{view-Object}
use Rattle.flowfile_record.specs.Attributes.{AttributeMap, encoded_size}
use Rattle.flowfile_record.specs.declared.TheConstants.{CONTENT_MAX}
use Rattle.flowfile_record.specs.declared.attributes.TheConstants.{ATTRIBUTES_MAX}
use Rattle.flowfile_record.specs.declared.worked.Origin.TheVariants.{Taken as FromQueue}
use Rattle.flowfile_record.specs.declared.worked.Outcome.{Outcome}
use Rattle.machine_model.specs.Acting.{act}
use Rattle.machine_model.specs.AttributesToJson.{json_of, noted_in, object_of, written_on}
use Rattle.machine_model.specs.Making.{TakenFile, alone as alone_outcome, as_content, or_given_up, with_set}
use Rattle.machine_model.specs.declared.given.Given.{Given}
use Rattle.machine_model.specs.declared.kind.Destination.{Destination}
use Rattle.machine_model.specs.declared.kind.Destination.TheVariants.{Attribute, Content}
use Rattle.machine_model.specs.declared.kind.Kind.TheVariants.{AttributesToJson}
use Rattle.process_session.specs.Bench.{Bench, bench_attributes, taken_source, taken_file}
use Rattle.process_session.specs.Changes.{with_written, written_file}
use Rattle.process_session.specs.Finish.{outcome_of}
use Rattle.process_session.specs.Reasons.{Refusal, already_ended, content_too_large, first_refusal, unknown_file}
use Rattle.process_session.specs.Refusals.{refusal_of_write}
use Rattle.process_session.specs.declared.error.SessionError.{SessionError}
use Rattle.process_session.specs.declared.error.SessionError.TheVariants.{ContentTooLarge}
use Rattle.process_session.specs.declared.file.File.{File}
use Rattle.process_session.specs.declared.file.Taken.{Taken}
use Rattle.process_session.proofs.Refusing.{pass, stop}
use Rattle.processor_api.specs.Acts.{Begins, EndsAs, KeepsTaken}
use Rattle.processor_api.proofs.Alone.{alone, write-free, written-alone}
use Rattle.processor_api.proofs.Began.{one-acts, taken-attributes, taken-uuid}
use Rattle.processor_api.specs.Sessions.{TookOne, HasOneOpen, EndsWith}
use Rattle.proc_attribute.specs.Json.{replaced_with, with_texts}
use Rattle.proc_attribute.specs.Passing.{all_to, passed_with}
use Rattle.proc_attribute.proofs.Passed.{ends-behind, given-up, one_with, with-keeps}
use Rattle.proc_attribute.proofs.Updating.{next-left}

abbrev pub Pair : Type 0
Pair = List ℕ × List ℕ

-- ---- texts put one after another

pub texts-more : (before now new : Members) (pairs left rest : List Pair) (pair : Pair) → with_texts before pairs ≡ with_texts now left → left ≡ pair ∷ rest → new ≡ put pair.0 (string pair.1) now → with_texts before pairs ≡ with_texts new rest
texts-more before now new pairs left rest pair so_far is new-is = so_far ∙ ap (with_texts now) is ∙ ap (λ members. with_texts members rest) (sym new-is)

pub texts-append : (ms : Members) (pairs more : List Pair) → with_texts ms (pairs ++ more) ≡ with_texts (with_texts ms pairs) more
texts-append ms [] more = refl
texts-append ms (pair ∷ pairs) more = texts-append (put pair.0 (string pair.1) ms) pairs more

-- a pair that was found at its place is the next one
pub next-got : (pairs : List Pair) (i : ℕ) (pair : Pair) → slice_get pairs i ≡ Some pair → drop i pairs ≡ pair ∷ drop (i + 1) pairs
next-got pairs i pair is = next-left pairs i pair (slice_get_within pairs i pair is) (sym (get_or_from_slice_get pairs i pair pair is))

-- ---- no text is a float

neither : (a b : Bool) → a || b ≡ false → (a ≡ false) × (b ≡ false)
neither true b is = absurd (let no : true ≡ false = is in cc)
neither false b is = (refl, is)

none-in : (a b : Bool) → a ≡ false → b ≡ false → a || b ≡ false
none-in a b is other = rw (is, other) refl

put-no_float : (key text : List ℕ) (ms : Members) → members_have_float ms ≡ false → members_have_float (put key (string text) ms) ≡ false
put-no_float key text no_members none = refl
put-no_float key text (member l e ms) none =
    let parts = neither (has_float e) (members_have_float ms) none in
    of_order (slice_cmp nat_cmp key l) parts.0 parts.1 (put-no_float key text ms parts.1)
  where
    of_order : (o : Ordering) → has_float e ≡ false → members_have_float ms ≡ false → members_have_float (put key (string text) ms) ≡ false
        → members_have_float (match_ordering o (member key (string text) (member l e ms)) (member l (string text) ms) (member l e (put key (string text) ms))) ≡ false
    of_order Less here rest put-rest = none
    of_order Equal here rest put-rest = rest
    of_order Greater here rest put-rest = none-in (has_float e) _ here put-rest

texts-no_float : (pairs : List Pair) (ms : Members) → members_have_float ms ≡ false → members_have_float (with_texts ms pairs) ≡ false
texts-no_float [] ms none = none
texts-no_float (pair ∷ pairs) ms none = texts-no_float pairs (put pair.0 (string pair.1) ms) (put-no_float pair.0 pair.1 ms none)

-- what is written of such an object
pub object-text : (m : BTreeMap (String Global) Value) (pairs : List Pair) (text : List ℕ) → members_view m.entries ≡ with_texts no_members pairs → (has_float (view (Object m)) ≡ false → text ≡ compact_text (view (Object m)))
    → text ≡ compact_text (object_of pairs)
object-text m pairs text is written =
    let seen : view (Object m) ≡ object_of pairs = view-Object m ∙ ap object is in
    written (ap has_float seen ∙ texts-no_float pairs no_members refl) ∙ ap compact_text seen

-- ---- a content that is replaced

abbrev replaced_file : Taken → List ℕ → File
replaced_file taken bytes = written_file bytes (taken_file 0 taken)

abbrev replaced_bench : Taken → List ℕ → Bench
replaced_bench taken bytes = alone 2 (taken_source taken ∷ []) (replaced_file taken bytes) None (0 + length bytes)

-- what a write that these bytes come of, or none, comes to
abbrev pub WriteComesTo : Taken → Bench → List ℕ → Option (List ℕ) → Type 0
WriteComesTo taken bench bytes (Some written) = (refusal_of_write bench 0 bytes ≡ None) × (with_written bench 0 bytes ≡ replaced_bench taken written)
WriteComesTo taken bench bytes None = (error : SessionError) × (refusal_of_write bench 0 bytes ≡ Some error)

known : (taken : Taken) → unknown_file (one_with taken taken.attributes) 0 ≡ None
unfolding unknown_file
known taken = refl

still_open : (taken : Taken) → already_ended (one_with taken taken.attributes) 0 ≡ None
unfolding already_ended
still_open taken = refl

too_large : (size : ℕ) → CONTENT_MAX < size → content_too_large size ≡ Some (ContentTooLarge size)
unfolding content_too_large
too_large size above = rw (lt-ltb CONTENT_MAX size above) refl

next : (refusal : Refusal) (refusals : List Refusal) (error : SessionError) → refusal ≡ None → first_refusal refusals ≡ Some error → first_refusal (refusal ∷ refusals) ≡ Some error
next refusal refusals error none rest = pass refusal refusals (sym none) ∙ rest

write-comes : (taken : Taken) (bytes : List ℕ) → encoded_size taken.attributes ≤ ATTRIBUTES_MAX → WriteComesTo taken (one_with taken taken.attributes) bytes (as_content bytes)
write-comes taken bytes small = of_test (nat_le (length bytes) CONTENT_MAX) refl
  where
    of_test : (fits : Bool) → nat_le (length bytes) CONTENT_MAX ≡ fits → WriteComesTo taken (one_with taken taken.attributes) bytes (cond fits (Some bytes) None)
    of_test true fits =
        let short : length bytes ≤ CONTENT_MAX = leb-true _ _ fits in (
          write-free 2 (taken_source taken ∷ []) (taken_file 0 taken) None 0 bytes refl small short (omega arith),
          written-alone 2 (taken_source taken ∷ []) (taken_file 0 taken) None 0 bytes,
        )
    of_test false fits =
        let large = too_large (length bytes) (leb-false _ _ fits) in (
          ContentTooLarge (length bytes),
          next _ _ _ (known taken) (next _ _ _ (still_open taken) (stop _ _ _ (sym large))),
        )

abbrev SmallFrom : Bench → Type 0
SmallFrom bench = encoded_size (bench_attributes bench 0) ≤ ATTRIBUTES_MAX

write-at-one : (before : Bench) (one : TookOne before) (bytes : List ℕ) → SmallFrom before → WriteComesTo one.taken before bytes (as_content bytes)
write-at-one before one bytes small =
    let P : Bench → Type 0 = λ b. WriteComesTo one.taken b bytes (as_content bytes) in
    subst P (sym one.begun) (write-comes one.taken bytes (subst SmallFrom one.begun small))

-- a write that was made
written-made : (taken : Taken) (bench : Bench) (bytes : List ℕ) (content : Option (List ℕ)) → refusal_of_write bench 0 bytes ≡ None → WriteComesTo taken bench bytes content
    → (written : List ℕ) × (content ≡ Some written) × (with_written bench 0 bytes ≡ replaced_bench taken written)
written-made taken bench bytes (Some written) made comes = (written, refl, comes.1)
written-made taken bench bytes None made comes = absurd (let no : None ≡ Some comes.0 = sym made ∙ comes.1 in cc)

-- a write that was refused
written-refused : (taken : Taken) (bench : Bench) (bytes : List ℕ) (content : Option (List ℕ)) (error : SessionError) → refusal_of_write bench 0 bytes ≡ Some error → WriteComesTo taken bench bytes content → content ≡ None
written-refused taken bench bytes None error refused comes = refl
written-refused taken bench bytes (Some written) error refused comes = absurd (let no : None ≡ Some error = sym comes.0 ∙ refused in cc)

replaced-open : (bench : Bench) (taken : Taken) (bytes : List ℕ) → bench ≡ replaced_bench taken bytes → HasOneOpen bench
replaced-open bench taken bytes is = record {
  file = replaced_file taken bytes;
  relationships = ap (λ (b : Bench). b.relationships) is;
  only = ap (λ (b : Bench). b.files) is;
  taken = refl;
  opened = refl;
  unsent = ap (λ (b : Bench). b.sent) is;
}

pub replace-open : (before now : Bench) (one : TookOne before) (bytes : List ℕ) → SmallFrom before → None ≡ refusal_of_write before 0 bytes → now ≡ with_written before 0 bytes → HasOneOpen now
replace-open before now one bytes small made now-is =
    let written = written-made one.taken before bytes _ (sym made) (write-at-one before one bytes small) in
    replaced-open now one.taken written.0 (now-is ∙ written.2)

pub replace-made : (before now after : Bench) (one : TookOne before) (bytes : List ℕ) → SmallFrom before → None ≡ refusal_of_write before 0 bytes → now ≡ with_written before 0 bytes → EndsWith now after (all_to 0 now.files)
    → EndsWith before after (replaced_with (bench_attributes before 0) (as_content bytes))
replace-made before now after one bytes small made now-is ends =
    let taken = one.taken in
    let written = written-made taken before bytes _ (sym made) (write-at-one before one bytes small) in
    let is : now ≡ replaced_bench taken written.0 = now-is ∙ written.2 in
    let kept : KeepsTaken before now = record {
      relationships = ap (λ (b : Bench). b.relationships) is ∙ sym (ap (λ (b : Bench). b.relationships) one.begun);
      sources = ap (λ (b : Bench). b.sources) is ∙ sym (ap (λ (b : Bench). b.sources) one.begun);
    } in
    ends-behind before now after _ _ kept
    (ap (λ (b : Bench). all_to 0 b.files) is ∙ ap (replaced_with taken.attributes) (sym written.1) ∙ ap (λ b. replaced_with (bench_attributes b 0) (as_content bytes)) (sym one.begun)) ends

pub replace-refused : (before now after : Bench) (one : TookOne before) (bytes : List ℕ) (error : SessionError) → SmallFrom before → Some error ≡ refusal_of_write before 0 bytes → now ≡ before → EndsWith now after (all_to 1 now.files)
    → EndsWith before after (replaced_with (bench_attributes before 0) (as_content bytes))
replace-refused before now after one bytes error small refused now-is ends =
    let taken = one.taken in
    let none = written-refused taken before bytes _ error (sym refused) (write-at-one before one bytes small) in
    let is : now ≡ one_with taken taken.attributes = now-is ∙ one.begun in
    ends-behind before now after _ _ (with-keeps before now taken taken.attributes taken.attributes one.begun is)
    (ap (λ (b : Bench). all_to 1 b.files) is ∙ ap (replaced_with taken.attributes) (sym none) ∙ ap (λ b. replaced_with (bench_attributes b 0) (as_content bytes)) (sym one.begun)) ends

-- ---- the processor

abbrev pub given_file : AttributeMap → List ℕ → TakenFile
given_file attributes uuid = record { attributes = attributes; uuid = uuid; bytes = [] }

abbrev pub noted : AttributeMap → List ℕ → Outcome
noted attributes json = passed_with attributes (with_set (FromQueue 0) attributes (codes "JSONAttributes", json))

abbrev pub replaced : AttributeMap → List ℕ → Outcome
replaced attributes json = replaced_with attributes (as_content json)

abbrev pub outcome_in : Destination → AttributeMap → (json : List ℕ) → Outcome
outcome_in Attribute attributes json = noted attributes json
outcome_in Content attributes json = replaced attributes json

replaced-up : (file : TakenFile) (content : Option (List ℕ)) → or_given_up 1 (file ∷ []) (option_map (λ bytes. alone_outcome (written_on file.attributes bytes)) content) ≡ replaced_with file.attributes content
replaced-up file None = refl
replaced-up file (Some bytes) = refl

json-up : (destination : Destination) (file : TakenFile) (json : List ℕ) → or_given_up 1 (file ∷ []) (noted_in destination file json) ≡ outcome_in destination file.attributes json
json-up Attribute file json = given-up file (with_set (FromQueue 0) file.attributes (codes "JSONAttributes", json))
json-up Content file json = replaced-up file (as_content json)

-- of a file its attributes and its uuid count
by-shown : (names : List (List ℕ)) (file : TakenFile) → json_of names file ≡ json_of names (given_file file.attributes file.uuid)
by-shown [] file = refl
by-shown (name ∷ names) file = refl

pub json-acts : (destination : Destination) (names : List (List ℕ)) (before : Bench) (given : Given) (after : Bench) (attributes : AttributeMap) (uuid json : List ℕ) → Begins (AttributesToJson destination names) before given
    → attributes ≡ bench_attributes before 0 → option_map (λ source. source.uuid) (slice_get before.sources 0) ≡ Some uuid → json ≡ json_of names (given_file attributes uuid)
    → EndsWith before after (outcome_in destination (bench_attributes before 0) json) → EndsAs (AttributesToJson destination names) before given after
json-acts destination names before given after attributes uuid json begins attributes-is uuid-is json-is ends =
    one-acts (AttributesToJson destination names) before given after refl begins ends.finished ends.kept
    (λ taken file began alike. of_file file (taken-attributes before taken file began alike) (taken-uuid before taken file uuid began alike uuid-is))
  where
    of_file : (file : TakenFile) → file.attributes ≡ bench_attributes before 0 → file.uuid ≡ uuid → act (AttributesToJson destination names) (file ∷ []) given ≡ Some (outcome_of after)
    of_file file same-attributes same-uuid =
        let text : List ℕ = json_of names (given_file file.attributes file.uuid) in
        let text-is : text ≡ json =
        ap (λ a. json_of names (given_file a file.uuid)) (same-attributes ∙ sym attributes-is) ∙ ap (λ u. json_of names (given_file attributes u)) same-uuid ∙ sym json-is in
        let same : outcome_in destination file.attributes text ≡ outcome_in destination (bench_attributes before 0) json =
        ap (λ a. outcome_in destination a text) same-attributes ∙ ap (outcome_in destination (bench_attributes before 0)) text-is in
        ap Some (json-up destination file (json_of names file) ∙ ap (outcome_in destination file.attributes) (by-shown names file) ∙ same ∙ sym ends.outcome)
