-- A session comes next only where nothing is due.
use Rattle.std.proofs.Common.{◌≡◌, ℕ, refl, ap, ◌∙◌}
use Rattle.std.specs.Prelude.{Option, None, Some}
use Rattle.engine_choice.specs.declared.choice.Choice.{Choice}
use Rattle.engine_steps.specs.Checkout.{choice_behind, choice_in, session_in}
use Rattle.engine_steps.specs.Engine.{EngineState}
use Rattle.engine_steps.specs.Ready.{Due, due_in}

none_behind : (due : Option Due) (chosen : Option Choice) (choice : Choice) → choice_behind due chosen ≡ Some choice → (due ≡ None) × (chosen ≡ Some choice)
none_behind None chosen choice is = (refl, is)
none_behind (Some due) chosen choice is = absurd cc

module _ (e : EngineState) (moment : ℕ) (choice : Choice) (session : session_in e moment ≡ Some choice) where
  pub nothing_due : due_in e moment ≡ None
  nothing_due = (none_behind (due_in e moment) (choice_in e moment) choice session).0

  -- it is the first that is ready
  pub chosen_of : choice_in e moment ≡ Some choice
  chosen_of = (none_behind (due_in e moment) (choice_in e moment) choice session).1

-- and where nothing is due, the first that is ready comes next
pub session_of : (e : EngineState) (moment : ℕ) (chosen : Option Choice) → due_in e moment ≡ None → choice_in e moment ≡ chosen → session_in e moment ≡ chosen
session_of e moment chosen none is = ap (λ (due : Option Due). choice_behind due (choice_in e moment)) none ∙ is
