-- A ModifyBytes makes what the machine makes.
use Rattle.std.proofs.Common.{◌≡◌, ℕ, ◌-◌, ◌≤◌, List, [], ◌∷◌, length, drop, Some, refl, sym, ◌∙◌, ap, arith}
use Rattle.std.proofs.lemmas.List.{length-drop, length-take-le}
use Rattle.flowfile_record.specs.declared.worked.Outcome.{Outcome}
use Rattle.flowfile_record.specs.Attributes.{AttributeMap}
use Rattle.machine_model.specs.Acting.{act}
use Rattle.machine_model.specs.AttributesToJson.{written_on}
use Rattle.machine_model.specs.Making.{TakenFile, alone}
use Rattle.machine_model.specs.ModifyBytes.{without_ends}
use Rattle.machine_model.specs.declared.given.Given.{Given}
use Rattle.machine_model.specs.declared.kind.Kind.TheVariants.{ModifyBytes}
use Rattle.process_session.specs.Bench.{Bench, bench_attributes, bench_bytes}
use Rattle.process_session.specs.Finish.{outcome_of}
use Rattle.processor_api.specs.Acts.{Begins, EndsAs}
use Rattle.processor_api.proofs.Began.{one-acts, taken-attributes, taken-content}
use Rattle.processor_api.specs.Sessions.{EndsWith}

pub kept-short : (start last : ℕ) (bytes : List ℕ) → length (without_ends start last bytes) ≤ length bytes
kept-short start last bytes =
    let rest : length (drop start bytes) ≡ length bytes - start = length-drop start bytes in
    let kept = length-take-le (length (drop start bytes) - last) (drop start bytes) (omega arith) in
    omega (arith, rest, kept)

abbrev modified : (start last : ℕ) → AttributeMap → List ℕ → Outcome
modified start last attributes bytes = alone (written_on attributes (without_ends start last bytes))

pub modify-acts : (start last : ℕ) (before : Bench) (given : Given) (after : Bench) (content bytes : List ℕ) → Begins (ModifyBytes start last) before given → bench_bytes before 0 ≡ Some content → bytes ≡ without_ends start last content
    → EndsWith before after (alone (written_on (bench_attributes before 0) bytes)) → EndsAs (ModifyBytes start last) before given after
modify-acts start last before given after content bytes begins shown is ends =
    one-acts (ModifyBytes start last) before given after refl begins ends.finished ends.kept
    (λ taken file began alike. of_file file (taken-attributes before taken file began alike) (taken-content before taken file content began alike shown))
  where
    of_file : (file : TakenFile) → file.attributes ≡ bench_attributes before 0 → file.bytes ≡ content → act (ModifyBytes start last) (file ∷ []) given ≡ Some (outcome_of after)
    of_file file attributes same =
        ap Some (ap (λ a. modified start last a file.bytes) attributes ∙ ap (modified start last (bench_attributes before 0)) same
        ∙ ap (λ b. alone (written_on (bench_attributes before 0) b)) (sym is) ∙ sym ends.outcome)
