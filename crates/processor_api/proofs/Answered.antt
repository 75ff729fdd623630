-- What follows of a session's call where nothing refuses it, memory aside.
use Rattle.std.proofs.Common.{◌≡◌, ℕ, List, None, Ok, Err, Result, cond, is_ok, refl, ◌∙◌, ap, subst}
use Rattle.std.specs.Prelude.{IfErr, IfOk, IsOk}
use Rattle.std.specs.Result.{result_err}
use Rattle.flowfile_record.specs.declared.worked.End.{End}
use Rattle.process_session.specs.declared.error.SessionError.{SessionError}
use Rattle.process_session.specs.declared.error.SessionError.TheVariants.{Memory}
use Rattle.process_session.specs.Bench.{Bench}
use Rattle.process_session.specs.Changes.{with_end, with_put, with_written}
use Rattle.process_session.specs.Reasons.{Refusal, IsErrorFor, IsRefusal}
use Rattle.process_session.specs.Refusals.{refusal_of_put, refusal_of_transfer, refusal_of_write}

-- a call that takes memory
pub only_memory : {A : Type 0} (result : Result A SessionError) (refusal : Refusal) → IsRefusal result refusal → refusal ≡ None → IfErr result (λ error. error ≡ Memory)
only_memory {A = A} result refusal is none = of_error result (subst (IsErrorFor (result_err result)) none is)
  where
    of_error : (result : Result A SessionError) → IsErrorFor (result_err result) None → IfErr result (λ error. error ≡ Memory)
    of_error (Ok value) is = tt
    of_error (Err error) is = is

-- a call that takes none
pub never_refused : {A : Type 0} (result : Result A SessionError) (refusal : Refusal) → result_err result ≡ refusal → refusal ≡ None → IsOk result
never_refused {A = A} result refusal is none = of_error result (is ∙ none)
  where
    of_error : (result : Result A SessionError) → result_err result ≡ None → IsOk result
    of_error (Ok value) is = refl
    of_error (Err error) is = cc

-- what it changed
pub changed_so : {A : Type 0} (result : Result A SessionError) (value : A) (old new next : Bench) → new ≡ cond (is_ok result) next old → result ≡ Ok value → new ≡ next
changed_so {A = A} result value old new next is ok = is ∙ ap (λ (r : Result A SessionError). cond (is_ok r) next old) ok

pub changed_where_ok : {A : Type 0} (result : Result A SessionError) (old new next : Bench) → new ≡ cond (is_ok result) next old → IsOk result → new ≡ next
changed_where_ok (Ok value) old new next is ok = is
changed_where_ok (Err error) old new next is ok = cc

-- what it answered
pub answer_of : {A : Type 0} (P : A → Type 0) (result : Result A SessionError) (value : A) → IfOk result P → result ≡ Ok value → P value
answer_of {A = A} P result value is ok =
    let Q : Result A SessionError → Type 0 = λ r. IfOk r P in
    subst Q ok is

-- ---- a call at a place that is known, of a bench that is known

pub put-at : (bench known : Bench) (place : ℕ) (key value same : List ℕ) → bench ≡ known → place ≡ 0 → value ≡ same → with_put bench place key value ≡ with_put known 0 key same
put-at bench known place key value same is first value-is =
    ap (λ b. with_put b place key value) is ∙ ap (λ p. with_put known p key value) first ∙ ap (with_put known 0 key) value-is

pub put_refusal-at : (bench known : Bench) (place : ℕ) (key value same : List ℕ) → bench ≡ known → place ≡ 0 → value ≡ same → refusal_of_put bench place key value ≡ refusal_of_put known 0 key same
put_refusal-at bench known place key value same is first value-is =
    ap (λ b. refusal_of_put b place key value) is ∙ ap (λ p. refusal_of_put known p key value) first ∙ ap (refusal_of_put known 0 key) value-is

pub write-at : (bench known : Bench) (place : ℕ) (bytes same : List ℕ) → bench ≡ known → place ≡ 0 → bytes ≡ same → with_written bench place bytes ≡ with_written known 0 same
write-at bench known place bytes same is first bytes-is =
    ap (λ b. with_written b place bytes) is ∙ ap (λ p. with_written known p bytes) first ∙ ap (with_written known 0) bytes-is

pub write_refusal-at : (bench known : Bench) (place : ℕ) (bytes same : List ℕ) → bench ≡ known → place ≡ 0 → bytes ≡ same → refusal_of_write bench place bytes ≡ refusal_of_write known 0 same
write_refusal-at bench known place bytes same is first bytes-is =
    ap (λ b. refusal_of_write b place bytes) is ∙ ap (λ p. refusal_of_write known p bytes) first ∙ ap (refusal_of_write known 0) bytes-is

pub end-at : (bench known : Bench) (place : ℕ) (end_of_file : End) → bench ≡ known → place ≡ 0 → with_end bench place end_of_file ≡ with_end known 0 end_of_file
end-at bench known place end_of_file is first = ap (λ b. with_end b place end_of_file) is ∙ ap (λ p. with_end known p end_of_file) first

pub transfer_refusal-at : (bench known : Bench) (place relationship : ℕ) → bench ≡ known → place ≡ 0 → refusal_of_transfer bench place relationship ≡ refusal_of_transfer known 0 relationship
transfer_refusal-at bench known place relationship is first =
    ap (λ b. refusal_of_transfer b place relationship) is ∙ ap (λ p. refusal_of_transfer known p relationship) first
