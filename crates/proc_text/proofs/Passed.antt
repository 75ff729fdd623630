-- A session with one taken file, whose content is replaced, and which is passed on.
use Rattle.std.proofs.Common.{◌≡◌, ℕ, ◌+◌, ◌<◌, ◌≤◌, List, [], ◌∷◌, length, None, Some, refl, sym, ◌∙◌, ap, subst, arith}
use Rattle.flowfile_record.specs.Attributes.{encoded_size}
use Rattle.flowfile_record.specs.declared.TheConstants.{CONTENT_MAX}
use Rattle.flowfile_record.specs.declared.attributes.TheConstants.{ATTRIBUTES_MAX}
use Rattle.flowfile_record.specs.declared.worked.End.TheVariants.{To}
use Rattle.machine_model.specs.AttributesToJson.{written_on}
use Rattle.machine_model.specs.Making.{alone as alone_outcome}
use Rattle.process_session.specs.Bench.{Bench, bench_attributes, taken_source, taken_file}
use Rattle.process_session.specs.Changes.{with_end, with_written, written_file}
use Rattle.process_session.specs.Finish.{outcome_of}
use Rattle.process_session.specs.Refusals.{refusal_of_finish, refusal_of_transfer, refusal_of_write}
use Rattle.process_session.specs.declared.file.File.{File}
use Rattle.process_session.specs.declared.file.Source.{Source}
use Rattle.processor_api.proofs.Alone.{alone, ended-alone, finish-free, outcome-alone, transfer-free, write-free, written-alone}
use Rattle.processor_api.specs.Sessions.{BeganWithOne, EndsWith}

-- ---- a content that is replaced

abbrev replaced_file : (bench : Bench) → BeganWithOne bench → List ℕ → File
replaced_file bench one bytes = written_file bytes (taken_file 0 one.taken)

abbrev sources_in : (bench : Bench) → BeganWithOne bench → List Source
sources_in bench one = taken_source one.taken ∷ []

abbrev SmallFrom : Bench → Type 0
SmallFrom bench = encoded_size (bench_attributes bench 0) ≤ ATTRIBUTES_MAX

pub replace-free : (before : Bench) (one : BeganWithOne before) (bytes : List ℕ) → SmallFrom before → length bytes ≤ CONTENT_MAX → refusal_of_write before 0 bytes ≡ None
replace-free before one bytes small fits =
    ap (λ b. refusal_of_write b 0 bytes) one.begun
    ∙ write-free before.relationships (sources_in before one) (taken_file 0 one.taken) None 0 bytes refl (subst SmallFrom one.begun small) fits (omega (arith, fits))

replaced-is : (before : Bench) (one : BeganWithOne before) (bytes : List ℕ)
    → with_written before 0 bytes ≡ alone before.relationships (sources_in before one) (replaced_file before one bytes) None (0 + length bytes)
replaced-is before one bytes =
    ap (λ b. with_written b 0 bytes) one.begun ∙ written-alone before.relationships (sources_in before one) (taken_file 0 one.taken) None 0 bytes

pub replaced-transfer : (before now : Bench) (one : BeganWithOne before) (bytes : List ℕ) (relationship : ℕ) → now ≡ with_written before 0 bytes → relationship < before.relationships → refusal_of_transfer now 0 relationship ≡ None
replaced-transfer before now one bytes relationship is there =
    ap (λ b. refusal_of_transfer b 0 relationship) (is ∙ replaced-is before one bytes)
    ∙ transfer-free before.relationships (sources_in before one) (replaced_file before one bytes) None (0 + length bytes) relationship refl there

pub replaced-ends : (before now after : Bench) (one : BeganWithOne before) (bytes : List ℕ) → now ≡ with_written before 0 bytes → after ≡ with_end now 0 (To 0) → EndsWith before after (alone_outcome (written_on (bench_attributes before 0) bytes))
replaced-ends before now after one bytes now-is after-is =
    let n = before.relationships in
    let s = sources_in before one in
    let file = replaced_file before one bytes in
    let done : File = record file { «end» = Some (To 0) } in
    let size = 0 + length bytes in
    let is : after ≡ alone n s done None size =
    after-is ∙ ap (λ b. with_end b 0 (To 0)) (now-is ∙ replaced-is before one bytes) ∙ ended-alone n s file None size (To 0) in
    record {
      finished = ap refusal_of_finish is ∙ finish-free n s done None size refl;
      kept = record {
        relationships = ap (λ (b : Bench). b.relationships) is;
        sources = ap (λ (b : Bench). b.sources) is ∙ sym (ap (λ (b : Bench). b.sources) one.begun);
      };
      outcome = ap outcome_of is ∙ outcome-alone n s done size refl (λ stand. refl) ∙ sym (ap (λ b. alone_outcome (written_on (bench_attributes b 0) bytes)) one.begun);
    }
