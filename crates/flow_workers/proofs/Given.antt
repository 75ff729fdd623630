-- Each moment of a step and of a session in flight is one that the clock gave.
use Rattle.std.proofs.Common.{◌≡◌, ⊎_elim, ℕ, List, [], ◌∷◌, ◌++◌, refl, sym, ap, subst, ◌∙◌}
use Rattle.std.specs.Prelude.{Option, None, Some, Result, Ok, Err}
use Rattle.flowfile_record.specs.Stored.{Kept}
use Rattle.machine_model.specs.declared.given.Given.{Given}
use Rattle.machine_model.specs.declared.journal.Entry.{Entry}
use Rattle.machine_model.specs.declared.journal.Step.TheVariants.{Expire}
use Rattle.processor_api.specs.Acts.{KeepsGiven}
use Rattle.engine_choice.specs.Laws.{given_for}
use Rattle.engine_choice.specs.declared.choice.Taking.{Taking}
use Rattle.engine_choice.specs.declared.choice.Taking.TheVariants as taking
use Rattle.run_law.specs.Turns.{AreMadeAt, step_moment}
use Rattle.engine_session.specs.declared.job.Job.{Job}
use Rattle.engine_steps.specs.Engine.{EngineState}
use Rattle.engine_steps.specs.Handing.{JobIsHanded}
use Rattle.engine_steps.specs.Tending.{HasExpired, HasTended}
use Rattle.engine_steps.specs.declared.error.EngineError.{EngineError}
use Rattle.engine_steps.specs.declared.error.EngineError.TheVariants.{Damaged, Disk, Inbox, Outbox, Put, Limit, MustReopen, NoSession, Memory}
use Rattle.engine_steps.specs.declared.flight.InFlight.{InFlight}
use Rattle.engine_steps.specs.declared.tending.Tended.{Tended}
use Rattle.engine_steps.specs.declared.tending.Tended.TheVariants.{Expired, Checkpointed, Reclaimed, Nothing}

module _ (given : ℕ → Type 0) where
  -- ---- an entry more

  made_behind : (journal : List Entry) (entry : Entry) → AreMadeAt given journal → given (step_moment entry.step) → AreMadeAt given (journal ++ entry ∷ [])
  made_behind [] entry all is = (is, tt)
  made_behind (first ∷ journal) entry all is = (all.0, made_behind journal entry all.1 is)

  pub made_with : (old new : List Entry) (entry : Entry) → new ≡ old ++ entry ∷ [] → given (step_moment entry.step) → AreMadeAt given old → AreMadeAt given new
  made_with old new entry grown is all = subst (AreMadeAt given) (sym grown) (made_behind old entry all is)

  pub made_same : (old new : List Entry) → new ≡ old → AreMadeAt given old → AreMadeAt given new
  made_same old new same all = subst (AreMadeAt given) (sym same) all

  -- ---- files that expire

  expired : (moment : ℕ) (acked : Option ℕ) (old new : EngineState) → given moment → HasExpired moment acked old new → AreMadeAt given old.journal → AreMadeAt given new.journal
  expired moment acked old new is it all = made_with old.journal new.journal (record { step = Expire it.connection it.numbers moment; acked = acked }) it.journal is all

  pub made_by_tending : (result : Result Tended EngineError) (moment now : ℕ) (old new : EngineState) → given moment → HasTended result moment now old new → AreMadeAt given old.journal → AreMadeAt given new.journal
  made_by_tending (Ok Expired) moment now old new is has all = expired moment (Some now) old new is has.0 all
  made_by_tending (Ok Checkpointed) moment now old new is has all = made_same old.journal new.journal has.0 all
  made_by_tending (Ok (Reclaimed answer)) moment now old new is has all = made_same old.journal new.journal has.0 all
  made_by_tending (Ok Nothing) moment now old new is has all = made_same old.journal new.journal (ap (λ (e : EngineState). e.journal) has) all
  made_by_tending (Err Disk) moment now old new is has all =
      ⊎_elim (λ (same : new.journal ≡ old.journal). made_same old.journal new.journal same all) (λ (cut : HasExpired moment None old new). expired moment None old new is cut all) has.0
  made_by_tending (Err (Damaged damage)) moment now old new is has all = made_same old.journal new.journal has.0 all
  made_by_tending (Err Inbox) moment now old new is has all = made_same old.journal new.journal has.0 all
  made_by_tending (Err Outbox) moment now old new is has all = made_same old.journal new.journal has.0 all
  made_by_tending (Err Put) moment now old new is has all = made_same old.journal new.journal has.0 all
  made_by_tending (Err (Limit limit)) moment now old new is has all = made_same old.journal new.journal has.0 all
  made_by_tending (Err MustReopen) moment now old new is has all = made_same old.journal new.journal has.0 all
  made_by_tending (Err NoSession) moment now old new is has all = made_same old.journal new.journal has.0 all
  made_by_tending (Err Memory) moment now old new is has all = made_same old.journal new.journal has.0 all

-- ---- a session's moment

moment_given : (moment : ℕ) (there : _) (takes : Taking) → (given_for moment there takes).moment ≡ moment
moment_given moment there (taking.Files connection numbers) = refl
moment_given moment there (taking.Generate index) = refl
moment_given moment there (taking.Receive name) = refl

-- the work on a session's job is of the moment at which it was checked out
pub moment_of_work : (k : Kept) (flight : InFlight) (job : Job) (given : Given) → JobIsHanded k flight job → KeepsGiven job.given given → given.moment ≡ flight.moment
moment_of_work k flight job given handed kept =
    ap (λ (g : Given). g.moment) kept.but_bytes ∙ ap (λ (g : Given). g.moment) handed.given ∙ moment_given flight.moment job.given.there flight.choice.taking
