-- How steps of any order, and steps that come in turn, go on, and as time goes by.
use Rattle.std.proofs.Common.{◌≡◌, ℕ, ◌≤◌, List, [], ◌∷◌, ◌++◌, sym, ◌∙◌, ap, subst, arith}
use Rattle.std.proofs.lemmas.List.{map-append}
use Rattle.std.specs.Prelude.{Option, None, Some, option_and_then}
use Rattle.machine_model.specs.declared.flow.Flow.{Flow}
use Rattle.machine_model.specs.declared.journal.Entry.{Entry}
use Rattle.machine_model.specs.declared.journal.Step.{Step}
use Rattle.machine_model.specs.Acknowledged.{steps}
use Rattle.machine_model.specs.State.{Machine}
use Rattle.machine_model.specs.Stepping.{replay}
use Rattle.run_law.specs.Laws.{NextStepsComeInTurn, StepsStayInTurn}
use Rattle.run_law.specs.Turns.{AreWithin, ComeInTurn, ComesNext, IsWithinRun, last_worker, step_moment, worker_behind}

-- ---- in any order

-- the same steps, up to a later time
pub within_later : (since until later : ℕ) (all : List Step) → until ≤ later → AreWithin since until all → AreWithin since later all
within_later since until later [] le within = omega (arith, le, within)
within_later since until later (one ∷ rest) le within = ((within.0.0, omega (arith, le, within.0.1)), within_later since until later rest le within.1)

-- and one more
within_one : (since until : ℕ) (all : List Step) (one : Step) → AreWithin since until all → IsWithinRun since until one → AreWithin since until (all ++ one ∷ [])
within_one since until [] one within is = (is, within)
within_one since until (first ∷ rest) one within is = (within.0, within_one since until rest one within.1 is)

-- .. as an entry of the journal, up to a later time
pub one_more_within : (since until later : ℕ) (journal : List Entry) (entry : Entry) → until ≤ later → AreWithin since until (steps journal) → IsWithinRun since later entry.step
    → AreWithin since later (steps (journal ++ entry ∷ []))
one_more_within since until later journal entry le within is =
    subst (AreWithin since later) (sym (map-append (λ (e : Entry). e.step) journal (entry ∷ [])))
    (within_one since later (steps journal) entry.step (within_later since until later (steps journal) le within) is)

-- the time is no earlier than the start's
pub since_start : (since until : ℕ) (all : List Step) → AreWithin since until all → since ≤ until
since_start since until [] within = within
since_start since until (one ∷ rest) within = since_start since until rest within.1

-- ---- in turn

-- the same steps, up to a later time
turns_later : (flow : Flow) (last : Option ℕ) (since until later : ℕ) (before : Machine) (all : List Step) → until ≤ later → ComeInTurn flow last since until before all → ComeInTurn flow last since later before all
turns_later flow last since until later before [] le turns = omega (arith, le, turns)
turns_later flow last since until later before (one ∷ rest) le turns =
    (turns.0, turns.1, λ after goes. turns_later flow (worker_behind last one) (step_moment one) until later after rest le (turns.2 after goes))

pub steps_stay : StepsStayInTurn
steps_stay flow since until later opened all turns le = turns_later flow None since until later opened all le turns

-- and the step that comes next behind them, up to any time behind that
next_turn : (flow : Flow) (last : Option ℕ) (since until later : ℕ) (before reached : Machine) (all : List Step) (one : Step) → ComeInTurn flow last since until before all
    → replay flow before all ≡ Some reached → until ≤ step_moment one → step_moment one ≤ later → ComesNext flow (last_worker last all) reached one
    → ComeInTurn flow last since later before (all ++ one ∷ [])
next_turn flow last since until later before reached [] one turns is le by comes =
    let same : before ≡ reached = cc in
    (omega (arith, le, turns), subst (λ (m : Machine). ComesNext flow last m one) (sym same) comes, λ after goes. omega (arith, by))
next_turn flow last since until later before reached (first ∷ rest) one turns is le by comes = (
  turns.0,
  turns.1,
  λ after goes. next_turn flow (worker_behind last first) (step_moment first) until later after reached rest one (turns.2 after goes) (ap (option_and_then (λ (m : Machine). replay flow m rest)) (sym goes) ∙ is) le by comes,
)

pub steps_come_next : NextStepsComeInTurn
steps_come_next flow since until later opened reached all one turns is le by comes = next_turn flow None since until later opened reached all one turns is le by comes
