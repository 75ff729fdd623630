-- A CryptographicHashContent makes what the machine makes.
use Rattle.std.proofs.Common.{◌≡◌, List, ℕ, [], ◌∷◌, Some, refl, sym, ◌∙◌, ap}
use Rattle.std.specs.Prelude.{codes}
use Rattle.hex.specs.Hex.{encode_lower}
use Rattle.sha2.specs.Sha256.{sha256}
use Rattle.flowfile_record.specs.Attributes.{AttributeMap}
use Rattle.flowfile_record.specs.declared.worked.Origin.TheVariants.{Taken as FromQueue}
use Rattle.flowfile_record.specs.declared.worked.Outcome.{Outcome}
use Rattle.machine_model.specs.Acting.{act}
use Rattle.machine_model.specs.Making.{TakenFile, with_set}
use Rattle.machine_model.specs.declared.given.Given.{Given}
use Rattle.machine_model.specs.declared.kind.Kind.TheVariants.{CryptographicHashContent}
use Rattle.process_session.specs.Bench.{Bench, bench_attributes, bench_bytes}
use Rattle.process_session.specs.Finish.{outcome_of}
use Rattle.processor_api.specs.Acts.{Begins, EndsAs}
use Rattle.processor_api.proofs.Began.{one-acts, taken-attributes, taken-content}
use Rattle.processor_api.specs.Sessions.{EndsWith}
use Rattle.proc_attribute.specs.Passing.{passed_with}
use Rattle.proc_attribute.proofs.Passed.{given-up}

abbrev pub hashed_from : AttributeMap → List ℕ → Outcome
hashed_from attributes content = passed_with attributes (with_set (FromQueue 0) attributes (codes "content_SHA-256", encode_lower (sha256 content)))

pub hash-acts : (before : Bench) (given : Given) (after : Bench) (content digest : List ℕ) → Begins CryptographicHashContent before given → bench_bytes before 0 ≡ Some content → digest ≡ encode_lower (sha256 content)
    → EndsWith before after (passed_with (bench_attributes before 0) (with_set (FromQueue 0) (bench_attributes before 0) (codes "content_SHA-256", digest))) → EndsAs CryptographicHashContent before given after
hash-acts before given after content digest begins shown is ends =
    one-acts CryptographicHashContent before given after refl begins ends.finished ends.kept
    (λ taken file began alike. of_file file (taken-attributes before taken file began alike) (taken-content before taken file content began alike shown))
  where
    of_file : (file : TakenFile) → file.attributes ≡ bench_attributes before 0 → file.bytes ≡ content → act CryptographicHashContent (file ∷ []) given ≡ Some (outcome_of after)
    of_file file attributes bytes =
        let set = with_set (FromQueue 0) file.attributes (codes "content_SHA-256", encode_lower (sha256 file.bytes)) in
        let wanted = passed_with (bench_attributes before 0) (with_set (FromQueue 0) (bench_attributes before 0) (codes "content_SHA-256", digest)) in
        let same : hashed_from file.attributes file.bytes ≡ wanted =
        ap (λ a. hashed_from a file.bytes) attributes ∙ ap (hashed_from (bench_attributes before 0)) bytes
        ∙ ap (λ d. passed_with (bench_attributes before 0) (with_set (FromQueue 0) (bench_attributes before 0) (codes "content_SHA-256", d))) (sym is) in
        ap Some (given-up file set ∙ same ∙ sym ends.outcome)
