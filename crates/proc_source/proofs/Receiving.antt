-- The session of a GetFile, behind each of its calls.
use Rattle.std.proofs.Common.{◌≡◌, ℕ, ◌+◌, ◌≤◌, false, List, [], length, Option, None, Some, refl, sym, ◌∙◌, ap, subst, arith}
use Rattle.std.specs.Prelude.{codes, IsSomeAnd}
use Rattle.std.specs.FinMap.{empty, insert}
use Rattle.flowfile_record.specs.Attributes.{AttributeMap, encoded_size, is_uuid}
use Rattle.flowfile_record.specs.Name.{IsName}
use Rattle.flowfile_record.specs.NameLemmas.{name-most}
use Rattle.flowfile_record.specs.declared.TheConstants.{CONTENT_MAX}
use Rattle.flowfile_record.specs.declared.worked.Body.TheVariants.{New}
use Rattle.flowfile_record.specs.declared.worked.End.TheVariants.{To}
use Rattle.flowfile_record.specs.declared.worked.Origin.TheVariants.{Received}
use Rattle.machine_model.specs.Acting.{received, received_attributes}
use Rattle.machine_model.specs.Making.{alone as alone_outcome, made_file as made_worked}
use Rattle.machine_model.specs.declared.given.Given.{Given}
use Rattle.machine_model.specs.declared.kind.Kind.TheVariants.{GetFile}
use Rattle.machine_model.specs.declared.pattern.Pattern.{Pattern}
use Rattle.process_session.specs.Bench.{Bench, bench_of}
use Rattle.process_session.specs.Changes.{new_file, with_end, with_put, with_received}
use Rattle.process_session.specs.Finish.{outcome_of}
use Rattle.process_session.specs.Refusals.{refusal_of_finish, refusal_of_put, refusal_of_transfer}
use Rattle.processor_api.specs.Acts.{Begins, EndsAs, KeepsTaken}
use Rattle.processor_api.proofs.Began.{source-acts, source-begins}
use Rattle.processor_api.proofs.Alone.{alone, encoded_size-empty, encoded_size-insert_le, ended-alone, filename_to_come_le, finish-free, outcome-alone, put-alone, put-free, transfer-free}

-- the received file, with these attributes
abbrev pub received_bench : AttributeMap → List ℕ → Bench
received_bench attributes bytes = alone 1 [] (new_file Received attributes (New bytes)) None (0 + length bytes)

pub received-first : (bytes : List ℕ) → with_received (bench_of 1 []) bytes ≡ received_bench empty bytes
received-first bytes = refl

pub received-put : (attributes : AttributeMap) (bytes key value : List ℕ) → is_uuid key ≡ false → with_put (received_bench attributes bytes) 0 key value ≡ received_bench (insert attributes key value) bytes
received-put attributes bytes key value isnt = put-alone 1 [] (new_file Received attributes (New bytes)) None (0 + length bytes) key value isnt

abbrev pub named : List ℕ → AttributeMap
named name = insert empty (codes "filename") name

named_le : (name : List ℕ) → IsName name → encoded_size (named name) ≤ 1000
named_le name is = omega (arith, encoded_size-empty, encoded_size-insert_le empty (codes "filename") name, name-most name is)

attributes_le : (name : List ℕ) → IsName name → encoded_size (received_attributes name) ≤ 2000
attributes_le name is = omega (arith, named_le name is, encoded_size-insert_le (named name) (codes "path") (codes "./"))

pub name-free : (bytes name : List ℕ) → length bytes ≤ CONTENT_MAX → IsName name → refusal_of_put (received_bench empty bytes) 0 (codes "filename") name ≡ None
name-free bytes name fits is =
    put-free 1 [] (new_file Received empty (New bytes)) None (0 + length bytes) (codes "filename") name refl refl refl
    (omega (arith, named_le name is, filename_to_come_le Received (named name))) (omega arith)

pub path-free : (bytes name : List ℕ) → length bytes ≤ CONTENT_MAX → IsName name → refusal_of_put (received_bench (named name) bytes) 0 (codes "path") (codes "./") ≡ None
path-free bytes name fits is =
    put-free 1 [] (new_file Received (named name) (New bytes)) None (0 + length bytes) (codes "path") (codes "./") refl refl refl
    (omega (arith, attributes_le name is, filename_to_come_le Received (received_attributes name))) (omega arith)

pub end-free : (attributes : AttributeMap) (bytes : List ℕ) → refusal_of_transfer (received_bench attributes bytes) 0 0 ≡ None
end-free attributes bytes = transfer-free 1 [] (new_file Received attributes (New bytes)) None (0 + length bytes) 0 refl (omega arith)

-- the file has ended
abbrev pub ended_bench : AttributeMap → List ℕ → Bench
ended_bench attributes bytes = with_end (received_bench attributes bytes) 0 (To 0)

ended-is : (attributes : AttributeMap) (bytes : List ℕ) → ended_bench attributes bytes ≡ alone 1 [] (record (new_file Received attributes (New bytes)) { «end» = Some (To 0) }) None (0 + length bytes)
ended-is attributes bytes = ended-alone 1 [] (new_file Received attributes (New bytes)) None (0 + length bytes) (To 0)

pub ended-finished : (attributes : AttributeMap) (bytes : List ℕ) → refusal_of_finish (ended_bench attributes bytes) ≡ None
ended-finished attributes bytes =
    ap refusal_of_finish (ended-is attributes bytes) ∙ finish-free 1 [] (record (new_file Received attributes (New bytes)) { «end» = Some (To 0) }) None (0 + length bytes) refl

pub ended-keeps : (before after : Bench) (attributes : AttributeMap) (bytes : List ℕ) → before ≡ bench_of 1 [] → after ≡ ended_bench attributes bytes → KeepsTaken before after
ended-keeps before after attributes bytes began is = record {
  relationships = ap (λ (b : Bench). b.relationships) is ∙ sym (ap (λ (b : Bench). b.relationships) began);
  sources = ap (λ (b : Bench). b.sources) is ∙ sym (ap (λ (b : Bench). b.sources) began);
}

pub ended-outcome : (attributes : AttributeMap) (bytes : List ℕ) → outcome_of (ended_bench attributes bytes) ≡ alone_outcome (made_worked Received attributes bytes false 0)
ended-outcome attributes bytes =
    ap outcome_of (ended-is attributes bytes) ∙ outcome-alone 1 [] (record (new_file Received attributes (New bytes)) { «end» = Some (To 0) }) (0 + length bytes) refl (λ stand. refl)

-- the bytes that it takes out are those that it is given
pub given-fits : (given : Option (List ℕ)) (bytes taken : List ℕ) → IsSomeAnd given (λ bytes. length bytes ≤ CONTENT_MAX) → given ≡ Some bytes → taken ≡ bytes → length taken ≤ CONTENT_MAX
given-fits given bytes taken fits is same =
    let P : Option (List ℕ) → Type 0 = λ o. IsSomeAnd o (λ bytes. length bytes ≤ CONTENT_MAX) in
    let short : length bytes ≤ CONTENT_MAX = subst P is fits in
    omega (arith, ap length same)

pub get-file-acts : (filter : Option Pattern) (before : Bench) (given : Given) (after : Bench) (name bytes taken : List ℕ) → Begins (GetFile filter) before given → given.file ≡ Some name → given.bytes ≡ Some bytes → taken ≡ bytes
    → after ≡ ended_bench (received_attributes name) taken → EndsAs (GetFile filter) before given after
get-file-acts filter before given after name bytes taken begins name-is bytes-is taken-is is =
    let attributes = received_attributes name in
    let same : after ≡ ended_bench attributes bytes = is ∙ ap (ended_bench attributes) taken-is in
    let of_bytes : received given.file given.bytes ≡ received (Some name) (Some bytes) = ap (λ o. received o given.bytes) name-is ∙ ap (received (Some name)) bytes-is in
    let outcome : alone_outcome (made_worked Received attributes bytes false 0) ≡ outcome_of after = sym (ap outcome_of same ∙ ended-outcome attributes bytes) in
    source-acts (GetFile filter) before given after refl begins (ap refusal_of_finish same ∙ ended-finished attributes bytes)
    (ended-keeps before after attributes bytes (source-begins (GetFile filter) before given refl begins) same) (of_bytes ∙ ap Some outcome)
