-- What each answer says of how a run ended, or why there was none.
use Rattle.std.proofs.Common.{◌≡◌, ◌⊎◌, ⊎_elim, ℕ, List, refl, sym, ap, subst}
use Rattle.disk_trait.specs.declared.damage.Damage.{Damage as TheDamage}
use Rattle.kept_state.specs.declared.limit.Limit.{Limit as TheLimit}
use Rattle.store_core.specs.declared.error.StoreError.{StoreError}
use Rattle.flow_definition.specs.declared.rule.Rule.{Rule}
use Rattle.run_law.specs.declared.ended.Ended.{Ended}
use Rattle.run_law.specs.declared.ended.Ended.TheVariants as ending
use Rattle.run_law.specs.declared.ended.Fault.{Fault}
use Rattle.run_law.specs.declared.ended.Fault.TheVariants as fault
use Rattle.run_top.specs.Opening.{IsOfStore}
use Rattle.run_top.specs.Run.{IsOfRun}
use Rattle.run_top.specs.Status.{answer_of_end, answer_of_fault, answer_of_opening}
use Rattle.run_top.specs.Text.{IsOfText}
use Rattle.run_top.specs.declared.answer.Answer.{Answer}
use Rattle.run_top.specs.declared.answer.Answer.TheVariants.{Refused, OtherFlow, Damaged, Disk, Inbox, Outbox, Source, Sink, Limit, Memory}

-- ---- no flow was read

pub of_text : (a : Answer) → (a ≡ Source) ⊎ (a ≡ Memory) → IsOfText a
of_text a kinds = ⊎_elim (λ (is : a ≡ Source). subst IsOfText (sym is) tt) (λ (is : a ≡ Memory). subst IsOfText (sym is) tt) kinds

pub not_refused : (a : Answer) (rule : Rule) (place : List ℕ) → (a ≡ Source) ⊎ (a ≡ Memory) → a ≡ Refused rule place → ⊥
not_refused a rule place kinds is = ⊎_elim (λ (source : a ≡ Source). cc (source, is)) (λ (memory : a ≡ Memory). cc (memory, is)) kinds

pub same_rule : (rule other : Rule) (place elsewhere : List ℕ) → Refused rule place ≡ Refused other elsewhere → rule ≡ other
same_rule rule other place elsewhere is = cc

pub same_place : (rule other : Rule) (place elsewhere : List ℕ) → Refused rule place ≡ Refused other elsewhere → place ≡ elsewhere
same_place rule other place elsewhere is = cc

-- ---- why a store wasn't opened

pub of_store : (e : StoreError) → IsOfStore (answer_of_opening e)
of_store StoreError.Disk = tt
of_store StoreError.MustReopen = tt
of_store StoreError.Memory = tt
of_store (StoreError.Limit limit) = tt
of_store (StoreError.Damaged damage) = tt
of_store (StoreError.OtherFlow kept found) = tt

-- an answer of a store that is of the flow, as the fault of a run
pub fault_of : (a : Answer) → IsOfStore a → (a ≡ OtherFlow → ⊥) → (cause : Fault) × (a ≡ answer_of_fault cause)
fault_of OtherFlow store other = absurd (other refl)
fault_of (Damaged damage) store other = (fault.Damaged damage, refl)
fault_of Disk store other = (fault.Disk, refl)
fault_of Memory store other = (fault.Memory, refl)
fault_of _ store other = absurd store

pub store_of_run : (a : Answer) → IsOfStore a → IsOfRun a
store_of_run OtherFlow store = tt
store_of_run (Damaged damage) store = tt
store_of_run Disk store = tt
store_of_run Memory store = tt
store_of_run _ store = absurd store

-- none of these comes at the opening
pub no_limit : (a : Answer) (limit : TheLimit) → IsOfStore a → a ≡ Limit limit → ⊥
no_limit a limit store is = subst IsOfStore is store

pub no_inbox : (a : Answer) → IsOfStore a → a ≡ Inbox → ⊥
no_inbox a store is = subst IsOfStore is store

pub no_outbox : (a : Answer) → IsOfStore a → a ≡ Outbox → ⊥
no_outbox a store is = subst IsOfStore is store

-- ---- how a run ended

pub end_of_run : (ended : Ended) → IsOfRun (answer_of_end ended)
end_of_run ending.Quiet = tt
end_of_run (ending.Blocked place) = tt
end_of_run (ending.Limit limit) = tt
end_of_run (ending.Fault fault.Disk) = tt
end_of_run (ending.Fault fault.Inbox) = tt
end_of_run (ending.Fault fault.Outbox) = tt
end_of_run (ending.Fault (fault.Damaged damage)) = tt
end_of_run (ending.Fault fault.Memory) = tt

pub damaged_end : (ended : Ended) (damage : TheDamage) → answer_of_end ended ≡ Damaged damage → ended ≡ ending.Fault (fault.Damaged damage)
damaged_end ending.Quiet damage is = absurd cc
damaged_end (ending.Blocked place) damage is = absurd cc
damaged_end (ending.Limit limit) damage is = absurd cc
damaged_end (ending.Fault fault.Disk) damage is = absurd cc
damaged_end (ending.Fault fault.Inbox) damage is = absurd cc
damaged_end (ending.Fault fault.Outbox) damage is = absurd cc
damaged_end (ending.Fault (fault.Damaged found)) damage is = let same : found ≡ damage = cc in ap (λ (d : TheDamage). ending.Fault (fault.Damaged d)) same
damaged_end (ending.Fault fault.Memory) damage is = absurd cc

pub limit_end : (ended : Ended) (limit : TheLimit) → answer_of_end ended ≡ Limit limit → ended ≡ ending.Limit limit
limit_end ending.Quiet limit is = absurd cc
limit_end (ending.Blocked place) limit is = absurd cc
limit_end (ending.Limit met) limit is = let same : met ≡ limit = cc in ap (λ (l : TheLimit). ending.Limit l) same
limit_end (ending.Fault fault.Disk) limit is = absurd cc
limit_end (ending.Fault fault.Inbox) limit is = absurd cc
limit_end (ending.Fault fault.Outbox) limit is = absurd cc
limit_end (ending.Fault (fault.Damaged damage)) limit is = absurd cc
limit_end (ending.Fault fault.Memory) limit is = absurd cc

-- what the answer of an end tells of a device, and what it never is
pub record IsOfEnd (answer : Answer) (ended : Ended) : Type 0 where
  pub disk : answer ≡ Disk → ended ≡ ending.Fault fault.Disk
  pub inbox : answer ≡ Inbox → ended ≡ ending.Fault fault.Inbox
  pub outbox : answer ≡ Outbox → ended ≡ ending.Fault fault.Outbox
  pub sink : answer ≡ Sink → ⊥
  pub other_flow : answer ≡ OtherFlow → ⊥

pub of_end : (ended : Ended) → IsOfEnd (answer_of_end ended) ended
of_end ending.Quiet = record { disk = λ is. absurd cc; inbox = λ is. absurd cc; outbox = λ is. absurd cc; sink = λ is. cc; other_flow = λ is. cc }
of_end (ending.Blocked place) = record { disk = λ is. absurd cc; inbox = λ is. absurd cc; outbox = λ is. absurd cc; sink = λ is. cc; other_flow = λ is. cc }
of_end (ending.Limit limit) = record { disk = λ is. absurd cc; inbox = λ is. absurd cc; outbox = λ is. absurd cc; sink = λ is. cc; other_flow = λ is. cc }
of_end (ending.Fault fault.Disk) = record { disk = λ is. refl; inbox = λ is. absurd cc; outbox = λ is. absurd cc; sink = λ is. cc; other_flow = λ is. cc }
of_end (ending.Fault fault.Inbox) = record { disk = λ is. absurd cc; inbox = λ is. refl; outbox = λ is. absurd cc; sink = λ is. cc; other_flow = λ is. cc }
of_end (ending.Fault fault.Outbox) = record { disk = λ is. absurd cc; inbox = λ is. absurd cc; outbox = λ is. refl; sink = λ is. cc; other_flow = λ is. cc }
of_end (ending.Fault (fault.Damaged damage)) = record { disk = λ is. absurd cc; inbox = λ is. absurd cc; outbox = λ is. absurd cc; sink = λ is. cc; other_flow = λ is. cc }
of_end (ending.Fault fault.Memory) = record { disk = λ is. absurd cc; inbox = λ is. absurd cc; outbox = λ is. absurd cc; sink = λ is. cc; other_flow = λ is. cc }
