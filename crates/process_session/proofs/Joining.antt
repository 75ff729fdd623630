-- The reasons to refuse of several files, a file at a time.
use Rattle.std.proofs.Common.{◌≡◌, ℕ, ◌+◌, ◌<◌, List, [], ◌∷◌, length, get_or, take, drop, ◌-◌, arith, None, Some, sym, ◌∙◌, ap, add-one, drop-cons}
use Rattle.std.specs.Prelude.{fold}
use Rattle.std.proofs.lemmas.List.{take_all}
use Rattle.flowfile_record.specs.Attributes.{shared}
use Rattle.process_session.specs.Changes.{common_attributes}
use Rattle.process_session.specs.declared.error.SessionError.{SessionError}
use Rattle.process_session.specs.Bench.{Bench, bench_attributes}
use Rattle.process_session.specs.Refusals.{unknown_files, ended_refusal}
use Rattle.process_session.specs.Reasons.{unknown_file, already_ended}
use Rattle.process_session.proofs.Refusing.{pass, stop, one}

pub known_next : (bench : Bench) (places : List ℕ) (i : ℕ) → i < length places → None ≡ unknown_file bench (get_or places i 0) → unknown_files bench places ≡ unknown_files bench (drop i places) → unknown_files bench places ≡ unknown_files bench (drop (i + 1) places)
known_next bench places i within passes so_far =
    so_far ∙ ap (unknown_files bench) (drop-cons places i 0 within) ∙ pass _ _ passes ∙ one _ ∙ ap (λ n. unknown_files bench (drop n places)) (sym (add-one i))

pub known_stop : (bench : Bench) (places : List ℕ) (i : ℕ) (error : SessionError) → i < length places → Some error ≡ unknown_file bench (get_or places i 0) → unknown_files bench places ≡ unknown_files bench (drop i places) → unknown_files bench places ≡ Some error
known_stop bench places i error within stops so_far = so_far ∙ ap (unknown_files bench) (drop-cons places i 0 within) ∙ stop _ _ _ stops

pub open_next : (bench : Bench) (places : List ℕ) (i : ℕ) → i < length places → None ≡ already_ended bench (get_or places i 0) → ended_refusal bench places ≡ ended_refusal bench (drop i places) → ended_refusal bench places ≡ ended_refusal bench (drop (i + 1) places)
open_next bench places i within passes so_far =
    so_far ∙ ap (ended_refusal bench) (drop-cons places i 0 within) ∙ pass _ _ passes ∙ one _ ∙ ap (λ n. ended_refusal bench (drop n places)) (sym (add-one i))

pub open_stop : (bench : Bench) (places : List ℕ) (i : ℕ) (error : SessionError) → i < length places → Some error ≡ already_ended bench (get_or places i 0) → ended_refusal bench places ≡ ended_refusal bench (drop i places) → ended_refusal bench places ≡ Some error
open_stop bench places i error within stops so_far = so_far ∙ ap (ended_refusal bench) (drop-cons places i 0 within) ∙ stop _ _ _ stops

-- the first parent, and the others behind it
pub common_attributes-parts : (bench : Bench) (parents : List ℕ) → 0 < length parents
    → fold (λ attributes other. shared attributes (bench_attributes bench other)) (bench_attributes bench (get_or parents 0 0)) (take (length parents - 1) (drop 1 parents)) ≡ common_attributes bench parents
common_attributes-parts bench [] some = absurd (omega arith)
common_attributes-parts bench (parent ∷ more) some =
    ap (fold (λ attributes other. shared attributes (bench_attributes bench other)) (bench_attributes bench parent)) (take_all (length (parent ∷ more) - 1) more (omega arith))
