-- How a run goes on by a checkout, and how it comes to its end there.
use Rattle.std.proofs.Common.{◌≡◌, ◌⊎◌, inl, inr, ℕ, ◌≤◌, ◌==◌, ◌||◌, Bool, true, false, true≢false, List, [], ◌∷◌, ◌++◌, length, refl, sym, ap, subst, ◌∙◌, arith}
use Rattle.std.specs.Prelude.{Option, None, Some, Result, Ok, Err, IfErr, IfOk, IsErrOf, IsTrue, ◌↔◌}
use Rattle.std.proofs.lemmas.Bool.{eq-eqb}
use Rattle.std.proofs.lemmas.List.Elements.{All-push}
use Rattle.disk_trait.specs.Files.{Files}
use Rattle.flowfile_record.specs.NamedFile.{NamedFile}
use Rattle.kept_state.specs.declared.limit.Limit.{Limit as TheLimit}
use Rattle.machine_model.specs.State.{Machine}
use Rattle.store_core.specs.Store.{StoreState, kept_by}
use Rattle.engine_choice.specs.Laws.{IsMachineEnd}
use Rattle.engine_choice.specs.declared.choice.Ending.{Ending}
use Rattle.engine_choice.specs.declared.choice.Ending.TheVariants as ending
use Rattle.engine_queues.specs.Listing.{Left}
use Rattle.run_law.specs.Ending.{journal_full}
use Rattle.run_law.specs.Puts.{Start, outgoing}
use Rattle.run_law.specs.Work.{IsAtWork}
use Rattle.run_law.proofs.Writing.{same_log, writes_none}
use Rattle.engine_steps.specs.Checkout.{ChecksOut, HasCheckedOut, checkout_in, checkout_of_ending, choice_in, due_or_next, ending_in, next_of}
use Rattle.engine_steps.specs.Engine.{AreTakeable, EngineState, IsOfSameRun}
use Rattle.engine_steps.specs.Errors.{HasCause}
use Rattle.engine_steps.specs.Flights.{is_in_flight, names_to_come, with_name}
use Rattle.engine_steps.specs.Ready.{Due as WhatIsDue, IsReadyInMemory, IsUsableWith, due_in}
use Rattle.engine_steps.specs.declared.checkout.Checkout.{Checkout}
use Rattle.engine_steps.specs.declared.checkout.Checkout.TheVariants as next
use Rattle.engine_steps.specs.declared.error.EngineError.{EngineError}
use Rattle.engine_steps.specs.declared.error.EngineError.TheVariants.{Disk, Inbox, Limit, Memory, MustReopen, Outbox, Put}
use Rattle.engine_steps.specs.declared.flight.InFlight.{InFlight}
use Rattle.engine_steps.proofs.Ending.{comes_next, ends_as, full_as}
use Rattle.session_history.specs.Runs.{CheckoutPlaysOn, EndsAreOfTheMachine, FullJournalsStop, PlaysOn, RunsAsPlayed, ShowsWhatStands}
use Rattle.flow_workers.specs.Going.{AreGiven, WorkGoesOn, DeskIsInOrder, IsPlayedOut, IsPlayedTo, IsTended}
use Rattle.flow_workers.specs.Jobs.{AreAsListed}
use Rattle.flow_workers.specs.Seen.{Seen, ended_by_checkout, newly_noted, stopped_by}
use Rattle.flow_workers.specs.declared.cause.Cause.{Cause}
use Rattle.flow_workers.specs.declared.cause.Cause.TheVariants.{Blocked, Quiet, Stopped}
use Rattle.flow_workers.proofs.ByCalls.{goes_by, order_by, works_on}
use Rattle.flow_workers.proofs.Noted.{none_failed, none_or_some}
use Rattle.flow_workers.proofs.Tended.{on_ok}
use Rattle.flow_workers.proofs.Twice.{same_run}

-- ---- a session more is in flight

same_large : (place : Option ℕ) (listing : Left) → (with_name true place listing).too_large ≡ listing.too_large
same_large None listing = refl
same_large (Some place) listing = refl

flies_last : (session : ℕ) (flight : InFlight) (out : List InFlight) → flight.session ≡ session → is_in_flight session (out ++ flight ∷ []) ≡ true
flies_last session flight [] is = ap (λ (b : Bool). b || false) (eq-eqb flight.session session is)
flies_last session flight (first ∷ out) is = by (first.session == session) (flies_last session flight out is)
  where
    by : (b : Bool) → is_in_flight session (out ++ flight ∷ []) ≡ true → (b || is_in_flight session (out ++ flight ∷ [])) ≡ true
    by true rest = refl
    by false rest = rest

module _ (moment session : ℕ) (e f : EngineState) (out : HasCheckedOut moment session e f) where
  store_is : f.store ≡ e.store
  store_is = ap (λ (x : EngineState). x.store) out.rest

  checked_same : IsOfSameRun e f
  checked_same = record {
    flow = ap (λ (x : EngineState). x.flow) out.rest;
    most = ap (λ (x : EngineState). x.most) out.rest;
    checkpoint = ap (λ (x : EngineState). x.checkpoint) out.rest;
    too_large = ap (λ (x : EngineState). x.listing.too_large) out.rest ∙ same_large out.place e.listing;
    lot = ap (λ (s : StoreState). s.lot) store_is;
    id = ap (λ (x : EngineState). (kept_by x.store).store) out.rest;
  }

  checked_given : (given : ℕ → Type 0) → given moment → AreGiven given e → AreGiven given f
  checked_given given is all =
      subst (λ (x : EngineState). AreGiven given x) (sym out.rest)
      (all.0, All-push (λ (flight : InFlight). given flight.moment) e.out (record { session = session; moment = moment; choice = out.choice; place = out.place }) all.1 is)

  pub checked_flies : is_in_flight session f.out ≡ true
  checked_flies = ap (λ (x : EngineState). is_in_flight session x.out) out.rest ∙ flies_last session (record { session = session; moment = moment; choice = out.choice; place = out.place }) e.out refl

  module _ {D : Type 0} (tells : Bool) (held : D → Files) (moment_of : D → ℕ) (images : D → ℕ → Files → Type 0) (in_tells : Bool) (left : List NamedFile) (disk : D) where
    checked_usable : e.failed ≡ false → IsUsableWith tells held moment_of images in_tells left e disk → (f.failed ≡ false → IsReadyInMemory f) → IsUsableWith tells held moment_of images in_tells left f disk
    checked_usable works usable ready = record {
      usable = λ well. record {
        work = subst (λ (x : EngineState). IsAtWork x.flow tells held moment_of images x.store disk) (sym out.rest) (usable.usable works).work;
        memory = ready well;
      };
      takeable = λ well telling. subst (AreTakeable left) (sym out.coming) (usable.takeable works telling);
    }

-- ---- no session comes

nothing_due : (due : Option WhatIsDue) (after answer : Checkout) → (answer ≡ next.Due → ⊥) → due_or_next due after ≡ answer → due ≡ None
nothing_due None after answer apart is = refl
nothing_due (Some due) after answer apart is = absurd (apart (sym is))

not_due : (end : Ending) → checkout_of_ending end ≡ next.Due → ⊥
not_due (ending.Rest until) is = cc
not_due (ending.Blocked connection) is = cc
not_due ending.Quiet is = cc

none_fly : (out : List InFlight) → length out ≡ 0 → out ≡ []
none_fly [] is = refl
none_fly (flight ∷ out) is = absurd (omega (arith, is))

-- none is in flight where a run ends
ends_alone : (end : Ending) (moment : ℕ) (e : EngineState) → checkout_in e moment ≡ checkout_of_ending end → e.out ≡ []
ends_alone end moment e is =
    let due = nothing_due (due_in e moment) (next_of (length e.journal) (length e.out) e.most e.next_session (choice_in e moment) (ending_in e moment)) (checkout_of_ending end) (not_due end) is in
    let it = ends_as (length e.journal) (length e.out) e.most e.next_session (choice_in e moment) (ending_in e moment) end (comes_next e moment (checkout_of_ending end) due (sym is)) in
    none_fly e.out it.2

-- .. and the journal is full where it has no room
full_at : (limit : TheLimit) (moment : ℕ) (e : EngineState) → checkout_in e moment ≡ next.Limit limit → (limit ≡ journal_full e.most) × (e.most ≤ length e.journal)
full_at limit moment e is =
    let due = nothing_due (due_in e moment) (next_of (length e.journal) (length e.out) e.most e.next_session (choice_in e moment) (ending_in e moment)) (next.Limit limit) (λ due. cc) is in
    let it = full_as (length e.journal) (length e.out) e.most e.next_session (choice_in e moment) (ending_in e moment) limit (comes_next e moment (next.Limit limit) due (sym is)) in
    (it.2, it.3)

-- ---- a checkout

module _ {D I O C : Type 0} (tells : Bool) (held : D → Files) (moment_of : D → ℕ) (images : D → ℕ → Files → Type 0) (faults : D → ℕ) (in_tells : Bool) (left : I → List NamedFile) (in_faults : I → ℕ)
    (out_tells : Bool) (standing : O → List ℕ → Option (List ℕ)) (puts : O → List NamedFile) (out_faults : O → ℕ) (time : C → ℕ) (given : ℕ → Type 0)
    (e : EngineState) (disk : D) (inbox : I) (outbox : O) (clock : C) (p : Option Cause) where
  abbrev s : Seen D I O C
  s = record { engine = e; disk = disk; inbox = inbox; outbox = outbox; clock = clock; cause = p }

  abbrev t : (f : EngineState) → (q : Option Cause) → Seen D I O C
  t f q = record { engine = f; disk = disk; inbox = inbox; outbox = outbox; clock = clock; cause = q }

  abbrev InOrder : Seen D I O C → Type 0
  InOrder = DeskIsInOrder tells held moment_of images in_tells left time given

  abbrev Goes : (s t : Seen D I O C) → Type 0
  Goes = WorkGoesOn tells held moment_of images faults in_tells left in_faults out_tells standing puts out_faults time given

  module _ (order : InOrder s) (is_tended : (moment : ℕ) × IsTended moment_of images time given moment s) where
    abbrev moment : ℕ
    moment = is_tended.0

    abbrev at : IsTended moment_of images time given moment s
    at = is_tended.1

    works : e.failed ≡ false
    works = works_on tells held moment_of images in_tells left time given s order at.none

    ready : IsReadyInMemory e
    ready = (order.usable.usable works).memory

    -- ---- a call that calls no device

    abbrev IsNoFault : {A : Type 0} → Result A EngineError → Type 0
    IsNoFault result = (IsErrOf result Disk → ⊥) × (IsErrOf result Inbox → ⊥) × (IsErrOf result Outbox → ⊥) × (IsErrOf result Put → ⊥)

    goes_in_memory : {A : Type 0} (result : Result A EngineError) (f : EngineState) (q : Option Cause) → q ≡ stopped_by result → InOrder (t f q) → IsNoFault result → IsOfSameRun e f → f.store ≡ e.store → (AreGiven given e → AreGiven given f)
        → names_to_come f ≡ names_to_come e
        → (IsTrue tells → PlaysOn result tells held moment_of images e f moment disk disk (left inbox) (left inbox) (outgoing standing puts outbox) (outgoing standing puts outbox)) → Goes s (t f q)
    goes_in_memory result f q noted_is behind apart same store moments names plays =
        goes_by tells held moment_of images in_tells left time given faults in_faults out_tells standing puts out_faults result s (t f q) at.none noted_is behind same
        (on_ok result _ (same_log e.store.log.number f.store.log.number (ap (λ (x : StoreState). x.log.number) store))) (writes_none moment_of images e.store.log.number disk)
        (none_failed result (faults disk) (faults disk) (in_faults inbox) (in_faults inbox) (out_faults outbox) (out_faults outbox) (omega arith) (omega arith) (omega arith) apart.0 apart.1 apart.2 apart.3) (omega arith) moments
        (on_ok result _ (λ files all. subst (AreAsListed in_tells files (left inbox)) (sym names) all))
        (λ telling in_telling out_telling.
        subst (λ (m : ℕ). PlaysOn result tells held moment_of images e f m disk disk (left inbox) (left inbox) (outgoing standing puts outbox) (outgoing standing puts outbox)) at.at (plays telling))

    -- the engine is as it was
    goes_still : {A : Type 0} (result : Result A EngineError) (q : Option Cause) → q ≡ stopped_by result → HasCause result e.flow tells held moment_of images e.most e.journal e.store disk → (IsErrOf result MustReopen → ⊥)
        → (IsErrOf result EngineError.NoSession → ⊥) → IsNoFault result
        → (IsTrue tells → PlaysOn result tells held moment_of images e e moment disk disk (left inbox) (left inbox) (outgoing standing puts outbox) (outgoing standing puts outbox)) → Goes s (t e q)
    goes_still result q noted_is why reopens known apart plays =
        goes_in_memory result e q noted_is
        (order_by tells held moment_of images in_tells left time given result (t e q) noted_is order.usable (λ fails. absurd (true≢false (sym fails ∙ works))) why reopens known) apart (same_run e) refl (λ all. all) refl plays

    -- ---- the run has come to its end

    module _ (law : EndsAreOfTheMachine moment_of images) (shows : IsTrue tells → ShowsWhatStands moment_of images e disk) where
      played_out : (end : Ending) → checkout_in e moment ≡ checkout_of_ending end → IsTrue tells → (opened : Machine) (first : D) (start : Start)
          → RunsAsPlayed moment_of images e opened first start (time clock) disk (left inbox) (outgoing standing puts outbox) → IsPlayedOut end moment_of images e opened first start (time clock) disk (left inbox) (outgoing standing puts outbox)
      played_out end is telling opened first start plays =
          let it = law end moment e disk (left inbox) (outgoing standing puts outbox) (shows telling) ready is opened first start (time clock) plays.run in
          record { plays = plays; none = it.0; ends = subst (λ (m : ℕ). IsMachineEnd e.flow plays.run.reached.state plays.run.reached.world m end) at.at it.1 }

      at_rest : (cause : Cause) (end : Ending) → checkout_in e moment ≡ checkout_of_ending end → ((error : EngineError) → cause ≡ Stopped error → ⊥)
          → ((opened : Machine) (first : D) (start : Start) → IsPlayedOut end moment_of images e opened first start (time clock) disk (left inbox) (outgoing standing puts outbox)
          → IsPlayedTo (Some cause) tells held moment_of images e opened first start (time clock) disk (left inbox) (outgoing standing puts outbox)) → Goes s (t e (Some cause))
      at_rest cause end is apart so = record {
        run = λ telling in_telling out_telling opened first start was.
            so opened first start
            (played_out end is telling opened first start
            (subst (λ (o : Option Cause). IsPlayedTo o tells held moment_of images e opened first start (time clock) disk (left inbox) (outgoing standing puts outbox)) at.none was));
        order = record {
          usable = order.usable;
          failed = λ fails. absurd (true≢false (sym fails ∙ works));
          limited = λ limit stopped. absurd (apart (Limit limit) (it_is stopped));
          damaged = λ damage stopped. absurd (apart (EngineError.Damaged damage) (it_is stopped));
          works = λ stopped. apart MustReopen (it_is stopped);
          known = λ stopped. apart EngineError.NoSession (it_is stopped);
          rests = λ rests. (ends_alone end moment e is, at.short, subst given at.at at.is_given);
        };
        stands = λ other before. none_or_some other (sym at.none ∙ before);
        same = same_run e;
        log = λ none. none_or_some cause (sym none);
        alone = writes_none moment_of images e.store.log.number disk;
        devices = none_failed (newly_noted p (Some cause)) (faults disk) (faults disk) (in_faults inbox) (in_faults inbox) (out_faults outbox) (out_faults outbox) (omega arith) (omega arith) (omega arith) (not_noted p cause apart Disk)
            (not_noted p cause apart Inbox) (not_noted p cause apart Outbox) (not_noted p cause apart Put);
        later = omega arith;
        moments = λ all. all;
        bytes = λ none files all. all;
      }
        where
          it_is : {other : Cause} → ◌≡◌ {A = Option Cause} (Some cause) (Some other) → cause ≡ other
          it_is same = cc

          not_noted : (p : Option Cause) (cause : Cause) → ((error : EngineError) → cause ≡ Stopped error → ⊥) → (error : EngineError) → IsErrOf (newly_noted p (Some cause)) error → ⊥
          not_noted None Quiet apart error is = cc
          not_noted None (Blocked connection) apart error is = cc
          not_noted None (Stopped other) apart error is = apart other refl
          not_noted (Some before) cause apart error is = cc

      -- ---- whichever comes

      module _ (checks : CheckoutPlaysOn tells held moment_of images) (full : FullJournalsStop tells held moment_of images) (is_left : IsTrue tells → images disk (moment_of disk) (held disk)) where
        not_a_limit : (error : EngineError) → error ≡ Memory → (limit : TheLimit) → error ≡ Limit limit → ⊥
        not_a_limit error memory limit limited = let both : Memory ≡ Limit limit = sym memory ∙ limited in cc

        memory_alone : (error : EngineError) → (error ≡ MustReopen) ⊎ (error ≡ Memory) → (error ≡ MustReopen → ⊥) → error ≡ Memory
        memory_alone error (inl reopen) other = absurd (other reopen)
        memory_alone error (inr memory) other = memory

        -- an answer other than an end
        goes_quietly : (answer : Checkout) → answer ≡ checkout_in e moment → (f : EngineState) → f ≡ e → ChecksOut (Ok answer) moment e e → Goes s (t f None)
        goes_quietly answer comes f same leaves =
            subst (λ (x : EngineState). Goes s (t x None)) (sym same)
            (goes_still {A = Checkout} (Ok answer) None refl (record { limited = λ limit is. absurd cc; damaged = λ damage is. absurd cc }) (λ is. absurd cc) (λ is. absurd cc) ((λ is. cc), (λ is. cc), (λ is. cc), λ is. cc)
            (λ telling. checks (Ok answer) moment e e disk (left inbox) (outgoing standing puts outbox) (shows telling) ready comes leaves tt))

        goes_wanting : (error : EngineError) → error ≡ Memory → (f : EngineState) → f ≡ e → Goes s (t f (Some (Stopped error)))
        goes_wanting error memory f same =
            subst (λ (x : EngineState). Goes s (t x (Some (Stopped error)))) (sym same) (subst (λ (x : EngineError). Goes s (t e (Some (Stopped x)))) (sym memory)
            (goes_still {A = Checkout} (Err Memory) (Some (Stopped Memory)) refl (record { limited = λ limit is. absurd cc; damaged = λ damage is. absurd cc }) (λ is. absurd cc) (λ is. absurd cc) ((λ is. cc), (λ is. cc), (λ is. cc), λ is. cc)
            (λ telling. checks (Err Memory) moment e e disk (left inbox) (outgoing standing puts outbox) (shows telling) ready tt refl (λ limit limited. cc))))

        goes_full : (limit : TheLimit) → next.Limit limit ≡ checkout_in e moment → (f : EngineState) → f ≡ e → Goes s (t f (Some (Stopped (Limit limit))))
        goes_full limit comes f same =
            let it = full_at limit moment e (sym comes) in
            subst (λ (x : EngineState). Goes s (t x (Some (Stopped (Limit limit))))) (sym same)
            (goes_still {A = Checkout} (Err (Limit limit)) (Some (Stopped (Limit limit))) refl (record {
              limited = λ other is. let one : limit ≡ other = cc in inr (record { told = sym one ∙ it.0; full = it.1 }, (order.usable.usable works).work);
              damaged = λ damage is. absurd cc;
            }) (λ is. absurd cc) (λ is. absurd cc) ((λ is. cc), (λ is. cc), (λ is. cc), λ is. cc)
            (λ telling opened first start was by plays. full limit moment e disk (left inbox) (outgoing standing puts outbox) (shows telling) ready (is_left telling) (sym comes) opened first start was by plays))

        goes_with : (session : ℕ) → next.Session session ≡ checkout_in e moment → (f : EngineState) → HasCheckedOut moment session e f → (f.failed ≡ false → IsReadyInMemory f) → Goes s (t f None)
        goes_with session comes f out still =
            goes_in_memory {A = Checkout} (Ok (next.Session session)) f None refl
            (order_by tells held moment_of images in_tells left time given {A = Checkout} (Ok (next.Session session)) (t f None) refl (checked_usable moment session e f out tells held moment_of images in_tells (left inbox) disk works order.usable still)
            (λ fails. absurd (true≢false (sym fails ∙ ap (λ (x : EngineState). x.failed) out.rest ∙ works))) (record { limited = λ limit is. absurd cc; damaged = λ damage is. absurd cc }) (λ is. absurd cc) (λ is. absurd cc))
            ((λ is. cc), (λ is. cc), (λ is. cc), λ is. cc) (checked_same moment session e f out) (store_is moment session e f out) (checked_given moment session e f out given at.is_given) out.coming
            (λ telling. checks (Ok (next.Session session)) moment e f disk (left inbox) (outgoing standing puts outbox) (shows telling) ready comes out tt)

        pub checked_goes : (result : Result Checkout EngineError) (f : EngineState) → IfOk result (λ answer. answer ≡ checkout_in e moment) → ChecksOut result moment e f → (f.failed ≡ false → IsReadyInMemory f)
            → (IsErrOf result MustReopen ↔ (e.failed ≡ true)) → IfErr result (λ error. (error ≡ MustReopen) ⊎ (error ≡ Memory)) → (q : Option Cause) → q ≡ ended_by_checkout result → Goes s (t f q)
        checked_goes result f comes leaves still reopen kinds q noted_is = subst (λ (o : Option Cause). Goes s (t f o)) (sym noted_is) (by result comes leaves reopen kinds)
          where
            by : (r : Result Checkout EngineError) → IfOk r (λ answer. answer ≡ checkout_in e moment) → ChecksOut r moment e f → (IsErrOf r MustReopen ↔ (e.failed ≡ true)) → IfErr r (λ error. (error ≡ MustReopen) ⊎ (error ≡ Memory))
                → Goes s (t f (ended_by_checkout r))
            by (Err error) comes leaves reopen kinds = goes_wanting error (memory_alone error kinds (λ is. true≢false (sym (reopen.0 (ap Err is)) ∙ works))) f leaves
            by (Ok next.Due) comes leaves reopen kinds = goes_quietly next.Due comes f leaves refl
            by (Ok (next.Session session)) comes leaves reopen kinds = goes_with session comes f leaves still
            by (Ok (next.Wait in_flight)) comes leaves reopen kinds = goes_quietly (next.Wait in_flight) comes f leaves refl
            by (Ok (next.Limit limit)) comes leaves reopen kinds = goes_full limit comes f leaves
            by (Ok (next.Rest until)) comes leaves reopen kinds = goes_quietly (next.Rest until) comes f leaves refl
            by (Ok (next.Blocked connection)) comes leaves reopen kinds =
                subst (λ (x : EngineState). Goes s (t x (Some (Blocked connection)))) (sym leaves) (at_rest (Blocked connection) (ending.Blocked connection) (sym comes) (λ error is. cc) (λ opened first start out. out))
            by (Ok next.Quiet) comes leaves reopen kinds = subst (λ (x : EngineState). Goes s (t x (Some Quiet))) (sym leaves) (at_rest Quiet ending.Quiet (sym comes) (λ error is. cc) (λ opened first start out. out))
