-- Where no session comes the machine is at its end.
use Rattle.std.proofs.Common.{◌≡◌, ℕ, List, [], ◌∷◌, length, refl, sym, ap, subst, ◌∙◌, arith}
use Rattle.std.proofs.lemmas.List.Elements.{All-nil}
use Rattle.std.specs.Prelude.{All, Option, None, Some}
use Rattle.disk_trait.specs.Files.{Files}
use Rattle.flowfile_record.specs.NamedFile.{NamedFile}
use Rattle.machine_model.specs.Files.{queues_of}
use Rattle.machine_model.specs.State.{Machine}
use Rattle.machine_model.specs.View.{QueueView}
use Rattle.engine_queues.specs.Beside.{beside}
use Rattle.engine_queues.specs.Laws.{NoneIsOut, SeesTheSame}
use Rattle.engine_queues.specs.Listing.{names_left}
use Rattle.engine_queues.specs.Queues.{queue_seen}
use Rattle.engine_choice.specs.Laws.{EndsAreMachineEnds, IsMachineEnd}
use Rattle.engine_choice.specs.declared.choice.Ending.{Ending}
use Rattle.engine_choice.specs.declared.choice.Ending.TheVariants as ending
use Rattle.run_law.specs.Puts.{Outgoing, Start}
use Rattle.engine_steps.specs.Checkout.{checkout_in, checkout_of_ending, choice_in, due_or_next, ending_in, known_in, next_of}
use Rattle.engine_steps.specs.Engine.{EngineState}
use Rattle.engine_steps.specs.Flights.{busy_by, given_back, taken_by}
use Rattle.engine_steps.specs.Ready.{Due as WhatIsDue, IsReadyInMemory, due_in}
use Rattle.engine_steps.specs.Running.{IsRunning}
use Rattle.engine_steps.specs.Showing.{EngineShowsState}
use Rattle.engine_steps.specs.declared.checkout.Checkout.{Checkout}
use Rattle.engine_steps.specs.declared.checkout.Checkout.TheVariants as comes
use Rattle.engine_steps.specs.declared.flight.InFlight.{InFlight}
use Rattle.engine_steps.proofs.Ending.{comes_next, ends_as, none_expired}
use Rattle.session_history.specs.Runs.{ShowsWhatStands}

-- ---- a checkout that hands out nothing

-- nothing is due where this comes
pub nothing_due : (due : Option WhatIsDue) (next answer : Checkout) → (answer ≡ comes.Due → ⊥) → due_or_next due next ≡ answer → due ≡ None
nothing_due None next answer apart is = refl
nothing_due (Some due) next answer apart is = absurd (apart (sym is))

pub end_is_not_due : (end : Ending) → checkout_of_ending end ≡ comes.Due → ⊥
end_is_not_due (ending.Rest until) is = cc
end_is_not_due (ending.Blocked connection) is = cc
end_is_not_due ending.Quiet is = cc

pub none_is_empty : (out : List InFlight) → length out ≡ 0 → out ≡ []
none_is_empty [] is = refl
none_is_empty (flight ∷ out) is = absurd (omega (arith, is))

-- ---- none is in flight

module _ (alone : NoneIsOut) (e : EngineState) (m : Machine) (none : e.out ≡ []) (shown : EngineShowsState e m) where
  seen_alone : SeesTheSame e.flow (queue_seen e.queues) (queues_of m.state)
  seen_alone =
      subst (λ (views : ℕ → QueueView). SeesTheSame e.flow (queue_seen e.queues) views)
      (ap (λ (out : List InFlight). beside (taken_by out) (queues_of m.state)) none ∙ alone (queues_of m.state)) shown.seen

module _ {D : Type 0} (moment_of : D → ℕ) (images : D → ℕ → Files → Type 0) where
  -- no session comes
  module _ (alone : NoneIsOut) (law : EndsAreMachineEnds) (end : Ending) (moment : ℕ) (e : EngineState) (now : D) (left : List NamedFile) (out : Outgoing) (shows : ShowsWhatStands moment_of images e now) (ready : IsReadyInMemory e)
      (ends : checkout_in e moment ≡ checkout_of_ending end) (opened : Machine) (first : D) (start : Start) (time : ℕ) (run : IsRunning moment_of images e opened first start time now left out) where
    due : due_in e moment ≡ None
    due = nothing_due (due_in e moment) (next_of (length e.journal) (length e.out) e.most e.next_session (choice_in e moment) (ending_in e moment)) (checkout_of_ending end) (end_is_not_due end) ends

    abbrev it : (choice_in e moment ≡ None) × (end ≡ ending_in e moment) × (length e.out ≡ 0)
    it = ends_as (length e.journal) (length e.out) e.most e.next_session (choice_in e moment) (ending_in e moment) end (comes_next e moment (checkout_of_ending end) due (sym ends))

    none : e.out ≡ []
    none = none_is_empty e.out it.2

    shown : EngineShowsState e run.reached
    shown = shows run.reached run.to.run.holds

    is_end : IsMachineEnd e.flow run.reached.state run.reached.world moment end
    is_end =
        subst (IsMachineEnd e.flow run.reached.state run.reached.world moment) (sym it.1)
        (law e.flow run.reached.state run.reached.world (known_in e moment) e.last ready.sound
        (record {
          seen = seen_alone alone e run.reached none shown;
          counts = shown.counts;
          coming = sym (run.to.coming ∙ ap (λ (out : List InFlight). names_left (given_back out e.listing)) none);
          idle = subst (λ (out : List InFlight). All (λ (sessions : ℕ). sessions ≡ 0) (busy_by e.flow out)) (sym none) (All-nil (λ (sessions : ℕ). sessions ≡ 0));
        }) (none_expired e moment due) it.0)

    pub ends_there : (e.out ≡ []) × IsMachineEnd e.flow run.reached.state run.reached.world moment end
    ends_there = (none, is_end)
