-- A session comes for whose entry the journal has no room.
use Rattle.std.proofs.Common.{◌≡◌, inl, inr, ℕ, ◌≤◌, Bool, List, [], ◌∷◌, ◌++◌, length, refl, sym, ap, subst, ◌∙◌, arith}
use Rattle.std.specs.Prelude.{Option, None, Some}
use Rattle.disk_trait.specs.Files.{Files}
use Rattle.flowfile_record.specs.NamedFile.{NamedFile}
use Rattle.kept_state.specs.declared.limit.Limit.{Limit as TheLimit}
use Rattle.machine_model.specs.declared.flow.Flow.{Flow}
use Rattle.machine_model.specs.declared.journal.Step.{Step}
use Rattle.machine_model.specs.declared.journal.Step.TheVariants.{Age, Expire, Session, SwapIn, SwapOut}
use Rattle.machine_model.specs.Acknowledged.{steps}
use Rattle.machine_model.specs.Laws.{ReplayOfOneMore}
use Rattle.machine_model.specs.State.{Machine}
use Rattle.engine_queues.specs.Laws.{NoneIsOut}
use Rattle.engine_choice.specs.Choice.{Known, next_choice}
use Rattle.engine_choice.specs.Laws.{ChoicesAreSeen, ChoicesAreSessions}
use Rattle.engine_choice.specs.declared.choice.Choice.{Choice}
use Rattle.engine_session.specs.Steps.{SessionsAreSteps}
use Rattle.run_law.specs.Ending.{journal_full}
use Rattle.run_law.specs.Laws.{SparedRunsGoOn}
use Rattle.run_law.specs.Puts.{Outgoing, Start}
use Rattle.run_law.specs.Turns.{ComesNext, step_moment}
use Rattle.run_law.proofs.Turns.{since_start}
use Rattle.engine_steps.specs.Checkout.{checkout_in, choice_in, ending_in, next_of}
use Rattle.engine_steps.specs.Engine.{EngineState}
use Rattle.engine_steps.specs.Flights.{is_in_flight}
use Rattle.engine_steps.specs.Ready.{IsReadyInMemory, due_in}
use Rattle.engine_steps.specs.Running.{IsLimited}
use Rattle.engine_steps.specs.Showing.{EngineShowsState}
use Rattle.engine_steps.specs.declared.checkout.Checkout.TheVariants as comes
use Rattle.engine_steps.specs.declared.error.EngineError.TheVariants.{Limit}
use Rattle.engine_steps.proofs.Choosing.{HasStep, goes_on as steps_on}
use Rattle.engine_steps.proofs.Ending.{comes_next, full_as, none_expired}
use Rattle.session_history.specs.History.{Play}
use Rattle.session_history.specs.Runs.{MayBeMadeNext, RunsAsPlayed, ShowsWhatStands, StopsAsPlayed}
use Rattle.session_history.proofs.Alone.{due_alone, known_alone}
use Rattle.session_history.proofs.Playing.{history_so, played_waits, same_machine}
use Rattle.session_history.proofs.NoSession.{none_is_empty, nothing_due}

-- ---- the step that comes next, where no session is in flight

module _ (alone : NoneIsOut) (flow : Flow) (p : Play) (none : p.out ≡ []) (moment : ℕ) (later : p.moment ≤ moment) where
  pub may_come_next : (one : Step) → step_moment one ≡ moment → ComesNext flow p.last p.machine one → MayBeMadeNext flow p moment one
  may_come_next (Session place numbers t given) is next = inr (inl (record {
    flight = record { session = 0; moment = t; choice = next.choice; place = None };
    behind = record p { moment = t; out = p.out ++ record { session = 0; moment = t; choice = next.choice; place = None } ∷ [] };
    comes = record {
      later = omega (arith, later, is);
      apart = ap (is_in_flight 0) none;
      expired = sym (due_alone alone flow moment p none t) ∙ next.expired;
      chosen = sym (ap (λ (known : Known). next_choice flow known p.last) (known_alone alone flow moment p none t)) ∙ next.chosen;
      is = refl;
    };
    by = omega (arith, is);
    there = given.there;
    is = λ i. Session (sym next.place_is i) (sym next.numbers_are i) t (sym next.given_is i);
  }))
  may_come_next (Expire connection numbers t) is next = inr (inr (record {
    moment = t;
    later = omega (arith, later, is);
    by = omega (arith, is);
    connection = connection;
    numbers = numbers;
    due = sym (due_alone alone flow moment p none t) ∙ next;
    is = refl;
  }))
  may_come_next (SwapOut connection numbers batch) is next = absurd next
  may_come_next (SwapIn connection batch) is next = absurd next
  may_come_next (Age line) is next = absurd next

module _ {D : Type 0} (tells : Bool) (held : D → Files) (moment_of : D → ℕ) (images : D → ℕ → Files → Type 0) (spared : SparedRunsGoOn moment_of images) where
  -- the journal has no room
  module _ (law : ReplayOfOneMore) (alone : NoneIsOut) (sessions : ChoicesAreSessions) (choices : ChoicesAreSeen) (makes : SessionsAreSteps) (limit : TheLimit) (moment : ℕ) (e : EngineState) (now : D) (left : List NamedFile) (out : Outgoing)
      (shows : ShowsWhatStands moment_of images e now) (ready : IsReadyInMemory e) (is_left : images now (moment_of now) (held now)) (full : checkout_in e moment ≡ comes.Limit limit)
      (opened : Machine) (first : D) (start : Start) (time : ℕ) (by : time ≤ moment) (was : RunsAsPlayed moment_of images e opened first start time now left out) where
    abbrev plays : RunsAsPlayed moment_of images e opened first start moment now left out
    plays = played_waits tells held moment_of images spared e opened first start time moment now left out by was

    due : due_in e moment ≡ None
    due = nothing_due (due_in e moment) (next_of (length e.journal) (length e.out) e.most e.next_session (choice_in e moment) (ending_in e moment)) (comes.Limit limit) (λ is. cc) full

    abbrev it : (one : Choice) × (choice_in e moment ≡ Some one) × (limit ≡ journal_full e.most) × (e.most ≤ length e.journal) × (length e.out ≡ 0)
    it = full_as (length e.journal) (length e.out) e.most e.next_session (choice_in e moment) (ending_in e moment) limit (comes_next e moment (comes.Limit limit) due (sym full))

    none : e.out ≡ []
    none = none_is_empty e.out it.4

    shown : EngineShowsState e plays.run.reached
    shown = shows plays.run.reached plays.run.to.run.holds

    goes : HasStep e.flow e.last moment plays.run.reached
    goes = steps_on sessions choices makes e plays.run.reached moment it.0 none plays.run.to.run.valid shown.seen shown.counts plays.run.to.coming (none_expired e moment due) it.1

    filled : e.most ≡ length e.journal
    filled = omega (arith, it.3, ready.entries)

    pub stops_full : StopsAsPlayed (Limit limit) tells held moment_of images e opened first start moment now left out
    stops_full = record {
      next = Some goes.next;
      stops = subst (λ (l : TheLimit). IsLimited tells held moment_of images e l opened first start moment now left out (Some goes.next)) (sym it.2) (record {
        reached = plays.run.reached;
        to = plays.run.to;
        met = record {
          one = goes.next;
          is = refl;
          within = (omega (arith, since_start start.time moment (steps e.journal) plays.run.to.run.within, goes.at), omega (arith, goes.at));
          after = goes.after;
          goes = goes.goes;
          stands = plays.run.to.run.holds (held now) is_left;
          met = inr (ap journal_full filled);
        };
      });
      history = history_so tells held moment_of images e opened first start moment now left out plays moment (omega arith) (Some goes.next)
          (may_come_next alone e.flow plays.reached (plays.at.out ∙ none) moment plays.by goes.next goes.at
          (subst (λ (m : Machine). ComesNext e.flow plays.reached.last m goes.next) (sym (same_machine tells held moment_of images e opened first start moment now left out plays law))
          (subst (λ (last : Option ℕ). ComesNext e.flow last plays.run.reached goes.next) (sym plays.at.last) goes.comes)));
    }
