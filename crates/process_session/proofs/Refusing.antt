-- The first reason to refuse, a reason at a time.
use Rattle.std.proofs.Common.{◌≡◌, ℕ, inl, inr, List, [], ◌∷◌, None, Some, refl, sym, subst}
use Rattle.std.specs.Prelude.{Result, Err}
use Rattle.process_session.specs.declared.error.SessionError.{SessionError}
use Rattle.process_session.specs.declared.error.SessionError.TheVariants.{Memory}
use Rattle.process_session.specs.Reasons.{Refusal, first_refusal, IsErrorFor, IsRefusal, IsRefusalBehind}

pub pass : (refusal : Refusal) (refusals : List Refusal) → None ≡ refusal → first_refusal (refusal ∷ refusals) ≡ first_refusal refusals
unfolding first_refusal
pass None refusals e = refl
pass (Some other) refusals e = cc

pub stop : (refusal : Refusal) (refusals : List Refusal) (error : SessionError) → Some error ≡ refusal → first_refusal (refusal ∷ refusals) ≡ Some error
unfolding first_refusal
stop None refusals error e = cc
stop (Some other) refusals error e = sym e

pub no_refusal : first_refusal [] ≡ None
unfolding first_refusal
no_refusal = refl

-- an answer that gives the reason, one where there is none, and one for want of memory where there is none
pub cause : (error : SessionError) (refusal : Refusal) → refusal ≡ Some error → IsErrorFor (Some error) refusal
cause error refusal e = subst (IsErrorFor (Some error)) (sym e) refl

pub free : (refusal : Refusal) → refusal ≡ None → IsErrorFor None refusal
free refusal e = subst (IsErrorFor None) (sym e) tt

pub memory : (refusal : Refusal) → refusal ≡ None → IsErrorFor (Some Memory) refusal
memory refusal e = subst (IsErrorFor (Some Memory)) (sym e) refl

pub one : (refusal : Refusal) → first_refusal (refusal ∷ []) ≡ refusal
unfolding first_refusal
one None = refl
one (Some error) = refl

pub ruleset steps = (pass, stop, no_refusal)

pub ruleset refusals = (pass, stop, no_refusal, cause, free, memory)

-- of a call that takes memory before it knows all reasons
pub behind_known : (known refusal : Refusal) (error : SessionError) → known ≡ Some error → IsRefusalBehind {A = ℕ} known (Err error) refusal
behind_known known refusal error is = subst (λ k. IsRefusalBehind {A = ℕ} k (Err error) refusal) (sym is) refl

pub behind : (known refusal : Refusal) (result : Result ℕ SessionError) → known ≡ None → IsRefusal result refusal → IsRefusalBehind known result refusal
behind known refusal result none is = subst (λ k. IsRefusalBehind k result refusal) (sym none) (inl is)

pub behind_memory : (known refusal : Refusal) → known ≡ None → IsRefusalBehind {A = ℕ} known (Err Memory) refusal
behind_memory known refusal none = subst (λ k. IsRefusalBehind {A = ℕ} k (Err Memory) refusal) (sym none) (inr refl)
