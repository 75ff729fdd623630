-- How long the log is where a run ends with nothing left to do, or with all of it held back.
use Rattle.std.proofs.Common.{◌≡◌, ◌⊎◌, inl, inr, ⊎_elim, ℕ, refl, subst}
use Rattle.disk_trait.specs.Files.{Files}
use Rattle.run_law.specs.Ending as run_law
use Rattle.run_law.specs.declared.ended.Ended.{Ended}
use Rattle.run_law.specs.declared.ended.Ended.TheVariants as ending
use Rattle.run_law.specs.declared.ended.Fault.TheVariants as fault
use Rattle.run_top.specs.Opening.{IsOfStore}
use Rattle.run_top.specs.Run.{LeavesShortLog}
use Rattle.run_top.specs.Status.{answer_of_end}
use Rattle.run_top.specs.declared.answer.Answer.{Answer}
use Rattle.run_top.specs.declared.answer.Answer.TheVariants.{Done, Blocked, Sink}

abbrev AtRest : Answer → Type 0
AtRest answer = (answer ≡ Done) ⊎ ((place : ℕ) × (answer ≡ Blocked place))

-- no answer of an opening does
no_opening : (a : Answer) → IsOfStore a → AtRest a → ⊥
no_opening a store (inl is) = subst IsOfStore is store
no_opening a store (inr is) = subst IsOfStore is.1 store

no_sink : (a : Answer) → a ≡ Sink → AtRest a → ⊥
no_sink a sink (inl is) = cc (sink, is)
no_sink a sink (inr is) = cc (sink, is.1)

rests : (ended : Ended) → AtRest (answer_of_end ended) → (ended ≡ ending.Quiet) ⊎ ((place : ℕ) × (ended ≡ ending.Blocked place))
rests ending.Quiet rest = inl refl
rests (ending.Blocked place) rest = inr (place, refl)
rests (ending.Limit limit) rest = absurd (⊎_elim (λ is. cc) (λ is. cc (is.1)) rest)
rests (ending.Fault fault.Disk) rest = absurd (⊎_elim (λ is. cc) (λ is. cc (is.1)) rest)
rests (ending.Fault fault.Inbox) rest = absurd (⊎_elim (λ is. cc) (λ is. cc (is.1)) rest)
rests (ending.Fault fault.Outbox) rest = absurd (⊎_elim (λ is. cc) (λ is. cc (is.1)) rest)
rests (ending.Fault (fault.Damaged damage)) rest = absurd (⊎_elim (λ is. cc) (λ is. cc (is.1)) rest)
rests (ending.Fault fault.Memory) rest = absurd (⊎_elim (λ is. cc) (λ is. cc (is.1)) rest)

module _ {D : Type 0} (moment : D → ℕ) (images : D → ℕ → Files → Type 0) (checkpoint : ℕ) (new : D) where
  pub not_begun : (answer : Answer) → IsOfStore answer → LeavesShortLog answer moment images checkpoint new
  not_begun answer store rest = absurd (no_opening answer store rest)

  pub has_ended : (ended : Ended) → run_law.EndsShort moment images checkpoint ended new → LeavesShortLog (answer_of_end ended) moment images checkpoint new
  has_ended ended short rest = short (rests ended rest)

  pub not_shown : (answer : Answer) → answer ≡ Sink → LeavesShortLog answer moment images checkpoint new
  not_shown answer is rest = absurd (no_sink answer is rest)
