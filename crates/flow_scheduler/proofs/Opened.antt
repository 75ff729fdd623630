-- An engine that was opened is ready, and its first turn may come.
use Rattle.std.proofs.Common.{◌≡◌, ℕ, ◌-◌, ◌^◌, ◌<◌, Bool, List, [], length, sym, ◌∙◌, ap, subst, arith}
use Rattle.std.specs.Prelude.{None, Option, Some}
use Rattle.std.proofs.lemmas.List.Elements.{All-nil}
use Rattle.disk_trait.specs.Files.{Files}
use Rattle.flowfile_record.specs.NamedFile.{NamedFile}
use Rattle.machine_model.specs.declared.flow.Flow.{Flow}
use Rattle.machine_model.specs.Sound.{IsSound}
use Rattle.machine_model.proofs.Ordered.{pairs_nil}
use Rattle.store_core.specs.Flow.{flow_in}
use Rattle.store_core.specs.Store.{StoreState, kept_by}
use Rattle.engine_change.specs.Committing.{identity_of}
use Rattle.engine_queues.specs.Queues.{AreQueuesOf}
use Rattle.run_law.specs.Work.{IsAtWork}
use Rattle.engine_steps.specs.Engine.{EngineState}
use Rattle.engine_steps.specs.Flights.{AreInFlight, AreTwoSessions, HoldsInFlight, taken_by}
use Rattle.engine_steps.specs.Leaving.{MayGoOn}
use Rattle.engine_steps.specs.Opening.{IsOpened, IsToCome}
use Rattle.engine_steps.specs.Ready.{IsReadyInMemory}
use Rattle.engine_steps.specs.declared.flight.InFlight.{InFlight}
use Rattle.flow_scheduler.specs.Driving.{MayTurn}

no_moment : (e : EngineState) (moment : ℕ) → e.tended ≡ None → e.tended ≡ Some moment → ⊥
no_moment e moment none is = let both : ◌≡◌ {A = Option ℕ} None (Some moment) = sym none ∙ is in cc

module _ (flow : Flow) (s : StoreState) (most checkpoint : ℕ) (e : EngineState) (opened : IsOpened flow s most checkpoint e) where
  none_fly : AreInFlight e.flow (kept_by e.store) e.listing e.next_session e.out
  none_fly = subst (AreInFlight e.flow (kept_by e.store) e.listing e.next_session) (sym opened.out) (record {
    each = All-nil (HoldsInFlight e.flow (kept_by e.store) e.listing e.next_session);
    apart = pairs_nil AreTwoSessions;
    tasks = λ place processor found. omega arith;
  })

  queues_are : AreQueuesOf e.flow (kept_by e.store) (taken_by e.out) e.queues
  queues_are =
      subst (λ (out : List InFlight). AreQueuesOf e.flow (kept_by e.store) (taken_by out) e.queues) (sym opened.out)
      (subst (λ (f : Flow). AreQueuesOf f (kept_by e.store) [] e.queues) (sym opened.flow_is)
      (subst (λ (t : StoreState). AreQueuesOf flow (kept_by t) [] e.queues) (sym opened.store_is) opened.queues))

  pub opened_is_ready : IsSound flow → flow_in (kept_by s) ≡ identity_of flow → most < 2 ^ 64 - 1 → IsReadyInMemory e
  opened_is_ready sound identity few = record {
    sound = subst IsSound (sym opened.flow_is) sound;
    flow_is = ap (λ (t : StoreState). flow_in (kept_by t)) opened.store_is ∙ identity ∙ ap identity_of (sym opened.flow_is);
    queues = queues_are;
    listing = opened.listing ∙ sym opened.flow_is;
    distinct = opened.distinct;
    flights = none_fly;
    most = omega (arith, opened.most_is, few);
    entries = omega (arith, ap length opened.journal);
    due = λ moment is. absurd (no_moment e moment opened.tended is);
  }

  module _ {D : Type 0} (tells : Bool) (held : D → Files) (moment : D → ℕ) (images : D → ℕ → Files → Type 0) (in_tells : Bool) (left now_left : List NamedFile) (disk : D) where
    pub opened_may_go_on : IsSound flow → most < 2 ^ 64 - 1 → IsAtWork flow tells held moment images s disk → IsToCome in_tells left now_left e → MayGoOn tells held moment images in_tells now_left e disk
    opened_may_go_on sound few work coming = record {
      ready = record {
        work = subst (λ (f : Flow). IsAtWork f tells held moment images e.store disk) (sym opened.flow_is)
            (subst (λ (t : StoreState). IsAtWork flow tells held moment images t disk) (sym opened.store_is) work);
        memory = opened_is_ready sound work.flow_is few;
      };
      works = opened.works;
      left = coming.takeable;
    }

    pub opened_may_turn : IsSound flow → most < 2 ^ 64 - 1 → IsAtWork flow tells held moment images s disk → IsToCome in_tells left now_left e → MayTurn tells held moment images in_tells now_left e disk
    opened_may_turn sound few work coming = record { may = opened_may_go_on sound few work coming; none = opened.out }
