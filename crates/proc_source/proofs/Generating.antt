-- The session of a GenerateFlowFile, behind each of its calls.
use Rattle.std.proofs.Common.{◌≡◌, ℕ, ◌+◌, ◌^◌, ◌<◌, ◌≤◌, true, false, List, [], length, None, Some, refl, sym, ◌∙◌, ap, arith}
use Rattle.std.specs.Prelude.{codes, decimal}
use Rattle.std.specs.FinMap.{empty, get, insert}
use Rattle.std.proofs.lemmas.Fmt.{length-decimal-le}
use Rattle.flowfile_record.specs.Attributes.{AttributeMap, encoded_size, is_uuid}
use Rattle.flowfile_record.specs.declared.worked.Body.TheVariants.{New}
use Rattle.flowfile_record.specs.declared.worked.End.TheVariants.{To}
use Rattle.flowfile_record.specs.declared.worked.Origin.TheVariants.{Created}
use Rattle.machine_model.specs.Acting.{generated_attributes, generated_text, text_or_nothing}
use Rattle.machine_model.specs.Making.{alone as alone_outcome, made_file as made_worked}
use Rattle.machine_model.specs.Sound.{IsSoundKind}
use Rattle.machine_model.specs.declared.given.Given.{Given}
use Rattle.machine_model.specs.declared.kind.Kind.TheVariants.{GenerateFlowFile}
use Rattle.machine_model.proofs.ShortTexts.{text-short}
use Rattle.expr_lang.specs.Meaning.{tree_value}
use Rattle.expr_lang.specs.View.{tree_of}
use Rattle.expr_lang.specs.declared.syntax.Expr.{Expr}
use Rattle.process_session.specs.Bench.{Bench, bench_attributes, bench_of}
use Rattle.process_session.specs.Changes.{new_file, with_created, with_end, with_put, with_written, written_file}
use Rattle.process_session.specs.Finish.{outcome_of}
use Rattle.process_session.specs.Refusals.{refusal_of_finish, refusal_of_put, refusal_of_transfer, refusal_of_write}
use Rattle.process_session.specs.declared.file.File.{File}
use Rattle.processor_api.specs.Acts.{Begins, EndsAs, KeepsTaken}
use Rattle.processor_api.proofs.Began.{source-acts, source-begins}
use Rattle.processor_api.proofs.Alone.{alone, encoded_size-empty, encoded_size-insert_le, ended-alone, filename_to_come_le, finish-free, outcome-alone, put-alone, put-free, transfer-free, write-free, written-alone}

-- the file that is made, with these attributes
abbrev pub made : AttributeMap → File
made attributes = new_file Created attributes (New [])

abbrev pub created_bench : AttributeMap → Bench
created_bench attributes = alone 1 [] (made attributes) None 0

pub created-first : with_created (bench_of 1 []) ≡ created_bench empty
created-first = refl

pub created-put : (attributes : AttributeMap) (key value : List ℕ) → is_uuid key ≡ false → with_put (created_bench attributes) 0 key value ≡ created_bench (insert attributes key value)
created-put attributes key value isnt = put-alone 1 [] (made attributes) None 0 key value isnt

abbrev pub at_path : AttributeMap
at_path = insert empty (codes "path") (codes "./")

path_le : encoded_size at_path ≤ 1000
path_le = omega (arith, encoded_size-empty, encoded_size-insert_le empty (codes "path") (codes "./"))

attributes_le : (index : ℕ) → index < 2 ^ 64 → encoded_size (generated_attributes index) ≤ 2000
attributes_le index below =
    let digits : length (decimal index) ≤ 20 = length-decimal-le 20 index (omega arith) (omega arith) below in
    omega (arith, path_le, encoded_size-insert_le at_path (codes "generate.index") (decimal index))

pub path-free : refusal_of_put (created_bench empty) 0 (codes "path") (codes "./") ≡ None
path-free =
    put-free 1 [] (made empty) None 0 (codes "path") (codes "./") refl refl refl
    (omega (arith, path_le, filename_to_come_le Created at_path)) (omega arith)

pub index-free : (index : ℕ) → index < 2 ^ 64 → refusal_of_put (created_bench at_path) 0 (codes "generate.index") (decimal index) ≡ None
index-free index below =
    put-free 1 [] (made at_path) None 0 (codes "generate.index") (decimal index) refl refl refl
    (omega (arith, attributes_le index below, filename_to_come_le Created (generated_attributes index))) (omega arith)

pub text-free : (index : ℕ) (text : List ℕ) → index < 2 ^ 64 → length text ≤ 65536 → refusal_of_write (created_bench (generated_attributes index)) 0 text ≡ None
text-free index text below short =
    write-free 1 [] (made (generated_attributes index)) None 0 text refl (omega (arith, attributes_le index below)) (omega arith) (omega arith)

abbrev pub written : AttributeMap → List ℕ → File
written attributes text = written_file text (made attributes)

abbrev pub written_bench : AttributeMap → List ℕ → Bench
written_bench attributes text = alone 1 [] (written attributes text) None (0 + length text)

pub created-written : (attributes : AttributeMap) (text : List ℕ) → with_written (created_bench attributes) 0 text ≡ written_bench attributes text
created-written attributes text = written-alone 1 [] (made attributes) None 0 text

pub end-free : (attributes : AttributeMap) (text : List ℕ) → refusal_of_transfer (written_bench attributes text) 0 0 ≡ None
end-free attributes text = transfer-free 1 [] (written attributes text) None (0 + length text) 0 refl (omega arith)

-- the file has ended
abbrev pub ended_bench : AttributeMap → List ℕ → Bench
ended_bench attributes text = with_end (written_bench attributes text) 0 (To 0)

abbrev ended : AttributeMap → List ℕ → File
ended attributes text = record (written attributes text) { «end» = Some (To 0) }

ended-is : (attributes : AttributeMap) (text : List ℕ) → ended_bench attributes text ≡ alone 1 [] (ended attributes text) None (0 + length text)
ended-is attributes text = ended-alone 1 [] (written attributes text) None (0 + length text) (To 0)

pub ended-finished : (attributes : AttributeMap) (text : List ℕ) → refusal_of_finish (ended_bench attributes text) ≡ None
ended-finished attributes text = ap refusal_of_finish (ended-is attributes text) ∙ finish-free 1 [] (ended attributes text) None (0 + length text) refl

pub ended-keeps : (before after : Bench) (attributes : AttributeMap) (text : List ℕ) → before ≡ bench_of 1 [] → after ≡ ended_bench attributes text → KeepsTaken before after
ended-keeps before after attributes text began is = record {
  relationships = ap (λ (b : Bench). b.relationships) is ∙ sym (ap (λ (b : Bench). b.relationships) began);
  sources = ap (λ (b : Bench). b.sources) is ∙ sym (ap (λ (b : Bench). b.sources) began);
}

pub ended-outcome : (attributes : AttributeMap) (text : List ℕ) → outcome_of (ended_bench attributes text) ≡ alone_outcome (made_worked Created attributes text true 0)
ended-outcome attributes text = ap outcome_of (ended-is attributes text) ∙ outcome-alone 1 [] (ended attributes text) (0 + length text) refl (λ stand. refl)

-- the text that is written is that of the machine
pub text-is : (custom_text : Expr) (index place : ℕ) (bench : Bench) (text : List ℕ) → bench ≡ created_bench (generated_attributes index) → place ≡ 0
    → text ≡ text_or_nothing (tree_value (get (bench_attributes bench place)) (tree_of custom_text)) → text ≡ generated_text custom_text index
text-is custom_text index place bench text is first text-over =
    let over : Bench → ℕ → List ℕ = λ b p. text_or_nothing (tree_value (get (bench_attributes b p)) (tree_of custom_text)) in
    text-over ∙ ap (λ b. over b place) is ∙ ap (over (created_bench (generated_attributes index))) first

pub text_le : (count : ℕ) (custom_text : Expr) (index : ℕ) → IsSoundKind (GenerateFlowFile count custom_text) → length (generated_text custom_text index) ≤ 65536
text_le count custom_text index sound = text-short (get (generated_attributes index)) sound.texts.0 (tree_of custom_text) sound.texts.1

pub generate-acts : (count : ℕ) (custom_text : Expr) (before : Bench) (given : Given) (after : Bench) → Begins (GenerateFlowFile count custom_text) before given
    → after ≡ ended_bench (generated_attributes given.index) (generated_text custom_text given.index) → EndsAs (GenerateFlowFile count custom_text) before given after
generate-acts count custom_text before given after begins is =
    let attributes = generated_attributes given.index in
    let text = generated_text custom_text given.index in
    source-acts (GenerateFlowFile count custom_text) before given after refl begins (ap refusal_of_finish is ∙ ended-finished attributes text)
    (ended-keeps before after attributes text (source-begins (GenerateFlowFile count custom_text) before given refl begins) is)
    (ap Some (sym (ap outcome_of is ∙ ended-outcome attributes text)))
