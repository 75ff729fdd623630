-- How a turn ends, and that an end is the machine's.
use Rattle.std.proofs.Common.{◌≡◌, ℕ, List, [], sym, subst, ◌∙◌}
use Rattle.std.specs.Prelude.{All, Option, None, Some}
use Rattle.std.proofs.lemmas.List.Elements.{All-nil}
use Rattle.disk_trait.specs.Files.{Files}
use Rattle.flowfile_record.specs.NamedFile.{NamedFile}
use Rattle.machine_model.specs.Acknowledged.{steps}
use Rattle.machine_model.specs.Sound.{IsSound}
use Rattle.machine_model.specs.State.{Machine}
use Rattle.engine_choice.specs.Laws.{EndsAreMachineEnds, IsEndAt, IsMachineEnd}
use Rattle.engine_choice.specs.declared.choice.Ending.{Ending}
use Rattle.engine_choice.specs.declared.choice.Ending.TheVariants.{Blocked, Quiet, Rest}
use Rattle.engine_steps.specs.Checkout.{choice_in, ending_in, known_in}
use Rattle.flow_scheduler.specs.Driving.{IsEnded, IsTurned, RunsInTurn}
use Rattle.engine_steps.specs.Engine.{EngineState}
use Rattle.engine_steps.specs.Flights.{busy_by}
use Rattle.engine_steps.specs.Showing.{EngineShowsState}
use Rattle.engine_steps.specs.declared.flight.InFlight.{InFlight}
use Rattle.engine_steps.specs.Running.{IsRunning}
use Rattle.engine_steps.specs.Ready.{due_in}
use Rattle.run_law.specs.Puts.{Outgoing, Start}
use Rattle.run_law.specs.Turns.{ComeInTurn}
use Rattle.engine_steps.proofs.Ending.{none_expired}
use Rattle.flow_scheduler.proofs.InTurn.{left_alone, seen_alone}

-- ---- the end is the machine's

module _ (law : EndsAreMachineEnds) {D : Type 0} (moment : D → ℕ) (images : D → ℕ → Files → Type 0) (e : EngineState) (opened : Machine) (first now : D) (left : List NamedFile) (out : Outgoing)
    (start : Start) (time : ℕ) (run : IsRunning moment images e opened first start time now left out) (turns : ComeInTurn e.flow None start.time time opened (steps e.journal)) (none : e.out ≡ []) (shown : EngineShowsState e run.reached)
    (due : due_in e time ≡ None) (sound : IsSound e.flow) where
  machine_end : choice_in e time ≡ None → IsMachineEnd e.flow run.reached.state run.reached.world time (ending_in e time)
  machine_end at_rest =
      law e.flow run.reached.state run.reached.world (known_in e time) e.last sound
      (record {
        seen = seen_alone e run.reached none shown;
        counts = shown.counts;
        coming = sym (run.to.coming ∙ left_alone e none);
        idle = subst (λ (out : List InFlight). All (λ (sessions : ℕ). sessions ≡ 0) (busy_by e.flow out)) (sym none) (All-nil (λ (sessions : ℕ). sessions ≡ 0));
      }) (none_expired e time due) at_rest

  ended : (ending : Ending) → IsEndAt e.flow run.reached.state run.reached.world time ending → IsEnded ending moment images e opened first start time now left out
  ended ending ends = record {
    reached = run.reached;
    to = run.to;
    turns = turns;
    ends = ends;
  }

  pub turned_at_end : (ending : Ending) → ending ≡ ending_in e time → choice_in e time ≡ None → IsTurned (Some ending) moment images e opened first start time now left out
  turned_at_end (Rest until) is at_rest = record { run = run; turns = turns }
  turned_at_end (Blocked connection) is at_rest = ended (Blocked connection) (((machine_end at_rest).is_blocked connection).0 (sym is))
  turned_at_end Quiet is at_rest = ended Quiet ((machine_end at_rest).is_quiet.0 (sym is))

-- ---- what a turn answered

module _ {D : Type 0} (moment : D → ℕ) (images : D → ℕ → Files → Type 0) (e : EngineState) (opened : Machine) (first now : D) (start : Start) (left : List NamedFile) (out : Outgoing) (time : ℕ) (answer : Option Ending)
    (turned : IsTurned answer moment images e opened first start time now left out) where
  -- it went on, or it rests
  pub went_on : answer ≡ None → RunsInTurn moment images e opened first start time now left out
  went_on is = subst (λ (a : Option Ending). IsTurned a moment images e opened first start time now left out) is turned

  pub rests : (until : ℕ) → answer ≡ Some (Rest until) → RunsInTurn moment images e opened first start time now left out
  rests until is = subst (λ (a : Option Ending). IsTurned a moment images e opened first start time now left out) is turned

  -- it ended, by a clock that tells this moment
  pub ends_blocked : (connection later : ℕ) → answer ≡ Some (Blocked connection) → time ≡ later → IsEnded (Blocked connection) moment images e opened first start later now left out
  ends_blocked connection later is same =
      subst (λ (t : ℕ). IsEnded (Blocked connection) moment images e opened first start t now left out) same
      (subst (λ (a : Option Ending). IsTurned a moment images e opened first start time now left out) is turned)

  pub ends_quiet : (later : ℕ) → answer ≡ Some Quiet → time ≡ later → IsEnded Quiet moment images e opened first start later now left out
  ends_quiet later is same =
      subst (λ (t : ℕ). IsEnded Quiet moment images e opened first start t now left out) same
      (subst (λ (a : Option Ending). IsTurned a moment images e opened first start time now left out) is turned)
