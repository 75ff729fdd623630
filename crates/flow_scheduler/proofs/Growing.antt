-- At which moments the steps of a journal are made.
use Rattle.std.proofs.Common.{◌≡◌, inl, inr, ⊎_elim, ℕ, List, [], ◌∷◌, ◌++◌, refl, sym, ap, subst}
use Rattle.std.specs.Prelude.{Option, Some, None, Result, Ok, Err}
use Rattle.machine_model.specs.declared.journal.Entry.{Entry}
use Rattle.machine_model.specs.declared.journal.Step.TheVariants.{Expire}
use Rattle.run_law.specs.Turns.{AreMadeAt, step_moment}
use Rattle.engine_steps.specs.Commit.{IsJournaled}
use Rattle.engine_session.specs.Done.{step_done}
use Rattle.flow_scheduler.specs.Driving.{GrowsAt}
use Rattle.engine_steps.specs.Engine.{EngineState}
use Rattle.engine_steps.specs.Tending.{HasExpired, HasTended}
use Rattle.engine_steps.specs.declared.commit.Committed.{Committed}
use Rattle.engine_steps.specs.declared.commit.Committed.TheVariants.{Acked, Changed, Dropped}
use Rattle.engine_session.specs.declared.done.Done.{Done}
use Rattle.engine_steps.specs.declared.error.EngineError.{EngineError}
use Rattle.engine_steps.specs.declared.error.EngineError.TheVariants.{Damaged, Disk, Inbox, Outbox, Put, Limit, MustReopen, NoSession, Memory}
use Rattle.engine_steps.specs.declared.tending.Tended.{Tended}
use Rattle.engine_steps.specs.declared.tending.Tended.TheVariants.{Expired, Checkpointed, Reclaimed, Nothing}

-- ---- one turn

-- behind a call that left the journal
pub grows_behind : (moment : ℕ) (old mid new : List Entry) → mid ≡ old → GrowsAt moment mid new → GrowsAt moment old new
grows_behind moment old mid new is grows = subst (λ (journal : List Entry). GrowsAt moment journal new) is grows

expired_grows : (moment : ℕ) (acked : Option ℕ) (old new : EngineState) → HasExpired moment acked old new → GrowsAt moment old.journal new.journal
expired_grows moment acked old new it = inr (record { step = Expire it.connection it.numbers moment; acked = acked }, refl, it.journal)

-- what a call that tends leaves
pub tended_grows : (result : Result Tended EngineError) (moment now : ℕ) (old new : EngineState) → HasTended result moment now old new → GrowsAt moment old.journal new.journal
tended_grows (Ok Expired) moment now old new has = expired_grows moment (Some now) old new has.0
tended_grows (Ok Checkpointed) moment now old new has = inl has.0
tended_grows (Ok (Reclaimed answer)) moment now old new has = inl has.0
tended_grows (Ok Nothing) moment now old new has = inl (ap (λ (e : EngineState). e.journal) has)
tended_grows (Err Disk) moment now old new has = ⊎_elim (λ (same : new.journal ≡ old.journal). inl same) (λ (expired : HasExpired moment None old new). expired_grows moment None old new expired) has.0
tended_grows (Err (Damaged damage)) moment now old new has = inl has.0
tended_grows (Err Inbox) moment now old new has = inl has.0
tended_grows (Err Outbox) moment now old new has = inl has.0
tended_grows (Err Put) moment now old new has = inl has.0
tended_grows (Err (Limit limit)) moment now old new has = inl has.0
tended_grows (Err MustReopen) moment now old new has = inl has.0
tended_grows (Err NoSession) moment now old new has = inl has.0
tended_grows (Err Memory) moment now old new has = inl has.0

-- what a commit leaves
module _ (done : Done) (moment now : ℕ) (at : done.given.moment ≡ moment) (old new : EngineState) where
  with_entry : (acked : Option ℕ) → new.journal ≡ old.journal ++ record { step = step_done done; acked = acked } ∷ [] → GrowsAt moment old.journal new.journal
  with_entry acked is = inr (record { step = step_done done; acked = acked }, at, is)

  pub committed_grows : (result : Result Committed EngineError) → IsJournaled result done now old new → GrowsAt moment old.journal new.journal
  committed_grows (Ok (Acked entry acked)) has = with_entry (Some acked) has.2.journal
  committed_grows (Ok Changed) has = inl has.0.0
  committed_grows (Ok Dropped) has = inl has.0.0
  committed_grows (Err Disk) (inl none) = inl none.0.0
  committed_grows (Err Disk) (inr cut) = with_entry None cut.0
  committed_grows (Err Inbox) (inl none) = inl none.0.0
  committed_grows (Err Inbox) (inr acked) = with_entry (Some now) acked.journal
  committed_grows (Err (Damaged damage)) has = inl has.0.0
  committed_grows (Err Outbox) has = inl has.0.0
  committed_grows (Err Put) has = inl has.0.0
  committed_grows (Err (Limit limit)) has = inl has.0.0
  committed_grows (Err MustReopen) has = inl has.0.0
  committed_grows (Err NoSession) has = inl has.0.0
  committed_grows (Err Memory) has = inl has.0.0

-- ---- turn after turn

made_behind : (given : ℕ → Type 0) (journal : List Entry) (entry : Entry) → AreMadeAt given journal → given (step_moment entry.step) → AreMadeAt given (journal ++ entry ∷ [])
made_behind given [] entry all is = (is, tt)
made_behind given (first ∷ journal) entry all is = (all.0, made_behind given journal entry all.1 is)

pub made_on : (given : ℕ → Type 0) (moment : ℕ) (old new : List Entry) → GrowsAt moment old new → given moment → AreMadeAt given old → AreMadeAt given new
made_on given moment old new (inl same) is all = subst (AreMadeAt given) (sym same) all
made_on given moment old new (inr (entry, at, grown)) is all =
    subst (AreMadeAt given) (sym grown) (made_behind given old entry all (subst given (sym at) is))

-- at first none is made
pub none_made : (given : ℕ → Type 0) (journal : List Entry) → journal ≡ [] → AreMadeAt given journal
none_made given journal is = subst (AreMadeAt given) (sym is) tt
