-- The session of a DuplicateFlowFile.
use Rattle.std.proofs.Common.{◌≡◌, ℕ, Bool, true, false, cond, List, [], ◌∷◌, None, Some, refl, sym, ◌∙◌, ap, replicate}
use Rattle.std.specs.List.{All}
use Rattle.std.proofs.lemmas.List.Elements.{All-replicate}
use Rattle.flowfile_record.specs.Attributes.{AttributeMap}
use Rattle.flowfile_record.specs.declared.worked.End.TheVariants.{To}
use Rattle.flowfile_record.specs.declared.worked.Origin.TheVariants.{Cloned}
use Rattle.flowfile_record.specs.declared.worked.Outcome.{Outcome}
use Rattle.flowfile_record.specs.declared.worked.Worked.{Worked}
use Rattle.machine_model.specs.Acting.{act}
use Rattle.machine_model.specs.DuplicateFlowFile.{duplicate}
use Rattle.machine_model.specs.Making.{TakenFile, clone_of, may_have, passed_on}
use Rattle.machine_model.specs.declared.given.Given.{Given}
use Rattle.machine_model.specs.declared.kind.Kind.TheVariants.{DuplicateFlowFile}
use Rattle.process_session.specs.Bench.{Bench, bench_attributes, bench_of}
use Rattle.process_session.specs.Changes.{with_end}
use Rattle.process_session.specs.Finish.{outcome_of}
use Rattle.process_session.specs.declared.file.Taken.{Taken}
use Rattle.processor_api.specs.Acts.{Begins, EndsAs, IsTakenAs}
use Rattle.processor_api.proofs.Began.{one-acts}
use Rattle.processor_api.specs.Sessions.{EndsWith}
use Rattle.processor_api.specs.Cloning.{with_ended}
use Rattle.processor_api.proofs.Clones.{IsClone, ends-with, passed-is, took-one}

abbrev pub clones_of : ℕ → AttributeMap → List Worked
clones_of n attributes = replicate n (clone_of 0 attributes 0)

abbrev pub outcome_with : ℕ → AttributeMap → Outcome
outcome_with n attributes = record { files = passed_on 0 attributes false 0 ∷ clones_of n attributes; sent = None }

pub are-clones : (n : ℕ) (attributes : AttributeMap) → All (IsClone attributes) (clones_of n attributes)
are-clones n attributes = All-replicate (IsClone attributes) n (clone_of 0 attributes 0) (record { origin = refl; attributes = refl; goes = (0, refl) })

duplicate-is : (copies n : ℕ) (file : TakenFile) (may : Bool) → may_have (Cloned 0) file.attributes ≡ may → n ≡ cond may copies 0 → duplicate copies file ≡ outcome_with n file.attributes
duplicate-is copies n file true may is = rw may (ap (λ n. outcome_with n file.attributes) (sym is))
duplicate-is copies n file false may is = rw may (ap (λ n. outcome_with n file.attributes) (sym is))

pub duplicate-acts : (copies n : ℕ) (before : Bench) (given : Given) (after : Bench) → Begins (DuplicateFlowFile copies) before given → n ≡ cond (may_have (Cloned 0) (bench_attributes before 0)) copies 0
    → after ≡ with_end (with_ended before (clones_of n (bench_attributes before 0))) 0 (To 0) → EndsAs (DuplicateFlowFile copies) before given after
duplicate-acts copies n before given after begins many is =
    let attributes = bench_attributes before 0 in
    let took = took-one (DuplicateFlowFile copies) before given refl begins in
    let ends = ends-with before after attributes (passed_on 0 attributes false 0) (clones_of n attributes) refl (are-clones n attributes) (is ∙ passed-is before (clones_of n attributes) 0 took) in
    one-acts (DuplicateFlowFile copies) before given after refl begins ends.finished ends.kept (λ taken file began alike. of_file taken file began alike ends)
  where
    of_file : (taken : Taken) (file : TakenFile) → before ≡ bench_of before.relationships (taken ∷ []) → IsTakenAs file taken → EndsWith before after (outcome_with n (bench_attributes before 0)) → act (DuplicateFlowFile copies) (file ∷ []) given ≡ Some (outcome_of after)
    of_file taken file began alike ends =
        let same : file.attributes ≡ bench_attributes before 0 = alike.attributes ∙ sym (ap (λ b. bench_attributes b 0) began) in
        ap Some (duplicate-is copies n file _ refl (many ∙ ap (λ a. cond (may_have (Cloned 0) a) copies 0) (sym same))
        ∙ ap (outcome_with n) same ∙ sym ends.outcome)
