-- How a run goes on by a session that ends, as time goes by, and how it stops for want of memory.
use Rattle.std.proofs.Common.{◌≡◌, ◌⊎◌, inl, inr, ⊎_elim, ℕ, ◌≤◌, Bool, true, false, true≢false, List, refl, sym, ap, subst, ◌∙◌, arith}
use Rattle.std.specs.Prelude.{not, Option, None, Some, Ok, Err}
use Rattle.std.proofs.lemmas.List.Elements.{All-filter}
use Rattle.disk_trait.specs.Files.{Files}
use Rattle.flowfile_record.specs.NamedFile.{NamedFile}
use Rattle.kept_state.specs.declared.limit.Limit.{Limit as TheLimit}
use Rattle.machine_model.specs.State.{Machine}
use Rattle.run_law.specs.Puts.{Start, outgoing}
use Rattle.run_law.specs.Work.{IsAtWork, IsRefused}
use Rattle.run_law.proofs.Writing.{same_log, writes_none}
use Rattle.engine_steps.specs.Ending.{EndsSession, SessionHasEnded}
use Rattle.engine_steps.specs.Engine.{AreTakeable, EngineState, IsOfSameRun}
use Rattle.engine_steps.specs.Errors.{IsJournalFull}
use Rattle.engine_steps.specs.Flights.{has_session, is_in_flight, names_to_come}
use Rattle.engine_steps.specs.Ready.{IsReadyInMemory, IsUsableWith}
use Rattle.engine_steps.specs.declared.error.EngineError.{EngineError}
use Rattle.engine_steps.specs.declared.error.EngineError.TheVariants.{Disk, Inbox, Limit, Memory, Outbox, Put}
use Rattle.engine_steps.specs.declared.flight.InFlight.{InFlight}
use Rattle.engine_steps.proofs.SessionEnded.{ended_same_run}
use Rattle.session_history.specs.Runs.{EndingPlaysOn, EndingStaysStopped, PlayedRunsWait, PlayedRunsWant}
use Rattle.flow_workers.specs.Going.{AreGiven, WorkGoesOn, DeskIsInOrder, IsPlayedTo}
use Rattle.flow_workers.specs.Jobs.{AreAsListed}
use Rattle.flow_workers.specs.Seen.{Seen, newly_noted}
use Rattle.flow_workers.specs.declared.cause.Cause.{Cause}
use Rattle.flow_workers.specs.declared.cause.Cause.TheVariants.{Blocked, Quiet, Stopped}
use Rattle.flow_workers.proofs.ByCalls.{goes_by, order_by, works_on}
use Rattle.flow_workers.proofs.Noted.{none_failed, none_noted}
use Rattle.flow_workers.proofs.Twice.{goes_nowhere, same_run}

-- ---- a session that has ended

module _ (session : ℕ) (e f : EngineState) (ended : SessionHasEnded session e f) where
  ended_given : (given : ℕ → Type 0) → AreGiven given e → AreGiven given f
  ended_given given all =
      subst (λ (x : EngineState). AreGiven given x) (sym ended.rest)
      (all.0, All-filter (λ (flight : InFlight). not (has_session session flight)) (λ (flight : InFlight). given flight.moment) e.out all.1)

  ended_usable : {D : Type 0} (tells : Bool) (held : D → Files) (moment_of : D → ℕ) (images : D → ℕ → Files → Type 0) (in_tells : Bool) (left : List NamedFile) (disk : D) → e.failed ≡ false
      → IsUsableWith tells held moment_of images in_tells left e disk → (f.failed ≡ false → IsReadyInMemory f) → IsUsableWith tells held moment_of images in_tells left f disk
  ended_usable tells held moment_of images in_tells left disk works usable ready = record {
    usable = λ well. record {
      work = subst (λ (x : EngineState). IsAtWork x.flow tells held moment_of images x.store disk) (sym ended.rest) (usable.usable works).work;
      memory = ready well;
    };
    takeable = λ well telling. subst (AreTakeable left) (sym ended.coming) (usable.takeable works telling);
  }

module _ {D I O C : Type 0} (tells : Bool) (held : D → Files) (moment_of : D → ℕ) (images : D → ℕ → Files → Type 0) (faults : D → ℕ) (in_tells : Bool) (left : I → List NamedFile) (in_faults : I → ℕ)
    (out_tells : Bool) (standing : O → List ℕ → Option (List ℕ)) (puts : O → List NamedFile) (out_faults : O → ℕ) (time : C → ℕ) (given : ℕ → Type 0)
    (e : EngineState) (disk : D) (inbox : I) (outbox : O) (clock : C) (p : Option Cause) where
  abbrev s : Seen D I O C
  s = record { engine = e; disk = disk; inbox = inbox; outbox = outbox; clock = clock; cause = p }

  abbrev t : (f : EngineState) → Seen D I O C
  t f = record { engine = f; disk = disk; inbox = inbox; outbox = outbox; clock = clock; cause = p }

  abbrev InOrder : Seen D I O C → Type 0
  InOrder = DeskIsInOrder tells held moment_of images in_tells left time given

  abbrev Goes : (s t : Seen D I O C) → Type 0
  Goes = WorkGoesOn tells held moment_of images faults in_tells left in_faults out_tells standing puts out_faults time given

  abbrev Played : EngineState → (opened : Machine) → D → Start → Type 0
  Played f opened first start = IsPlayedTo p tells held moment_of images f opened first start (time clock) disk (left inbox) (outgoing standing puts outbox)

  module _ (order : InOrder s) where
    -- ---- a session ends

    -- where the run has come to its end none is in flight
    none_at_rest : (session : ℕ) → (p ≡ Some Quiet) ⊎ ((connection : ℕ) × (p ≡ Some (Blocked connection))) → is_in_flight session e.out ≡ false
    none_at_rest session rest = ap (is_in_flight session) (order.rests rest).0

    works_at_limit : (error : EngineError) → p ≡ Some (Stopped error) → (limit : TheLimit) → error ≡ Limit limit → e.failed ≡ false
    works_at_limit error is limit limited = by e.failed refl
      where
        other : (cause : EngineError) → ((limit : TheLimit) → cause ≡ Limit limit → ⊥) → p ≡ Some (Stopped cause) → e.failed ≡ false
        other cause apart here =
            let both : ◌≡◌ {A = Option Cause} (Some (Stopped error)) (Some (Stopped cause)) = sym is ∙ here in
            let same : error ≡ cause = cc in
            absurd (apart limit (sym same ∙ limited))

        by : (b : Bool) → e.failed ≡ b → e.failed ≡ false
        by false so = so
        by true so = ⊎_elim (other Disk (λ l same. cc)) (other Put (λ l same. cc)) (order.failed so)

    module _ (plays : EndingPlaysOn moment_of images) (stays : EndingStaysStopped tells held moment_of images) (session : ℕ) (f : EngineState) (ends : EndsSession session e f) (ready : f.failed ≡ false → IsReadyInMemory f) where
      -- the run
      still_played : (o : Option Cause) → p ≡ o → (opened : Machine) (first : D) (start : Start) → IsPlayedTo o tells held moment_of images e opened first start (time clock) disk (left inbox) (outgoing standing puts outbox)
          → IsPlayedTo o tells held moment_of images f opened first start (time clock) disk (left inbox) (outgoing standing puts outbox)
      still_played None is opened first start was =
          plays session e f opened first start (time clock) disk (left inbox) (outgoing standing puts outbox) (works_on tells held moment_of images in_tells left time given s order is) ends was
      still_played (Some (Stopped error)) is opened first start was =
          stays session error e f opened first start (time clock) disk (left inbox) (outgoing standing puts outbox) ends (λ limit limited. works_at_limit error is limit limited) was
      still_played (Some Quiet) is opened first start was =
          subst (λ (x : EngineState). IsPlayedTo (Some Quiet) tells held moment_of images x opened first start (time clock) disk (left inbox) (outgoing standing puts outbox)) (sym (ends.unknown (none_at_rest session (inl is)))) was
      still_played (Some (Blocked connection)) is opened first start was =
          subst (λ (x : EngineState). IsPlayedTo (Some (Blocked connection)) tells held moment_of images x opened first start (time clock) disk (left inbox) (outgoing standing puts outbox))
          (sym (ends.unknown (none_at_rest session (inr (connection, is))))) was

      -- a limit that an engine meets
      abbrev IsLimitIn : (limit : TheLimit) → EngineState → Type 0
      IsLimitIn limit x =
          IsRefused x.flow tells held moment_of images limit x.store disk ⊎ (IsJournalFull limit x.most x.journal × IsAtWork x.flow tells held moment_of images x.store disk)

      -- what is so of an engine in which all but sessions is as it was
      ended_by : IsOfSameRun e f → f.store ≡ e.store → f.journal ≡ e.journal → f.failed ≡ e.failed → IsUsableWith tells held moment_of images in_tells (left inbox) f disk → is_in_flight session e.out ≡ true → (AreGiven given e → AreGiven given f)
          → (p ≡ None → names_to_come f ≡ names_to_come e) → Goes s (t f)
      ended_by same store journal failed usable flies moments names = record {
        run = λ telling in_telling out_telling opened first start was. still_played p refl opened first start was;
        order = record {
          usable = usable;
          failed = λ fails. order.failed (sym failed ∙ fails);
          limited = λ limit is. limited_as limit (order.limited limit is);
          damaged = order.damaged;
          works = order.works;
          known = order.known;
          rests = λ rest. absurd (true≢false (sym flies ∙ none_at_rest session rest));
        };
        stands = λ cause is. (is, refl);
        same = same;
        log = λ none. same_log e.store.log.number f.store.log.number (λ i. (store i).log.number);
        alone = writes_none moment_of images e.store.log.number disk;
        devices = none_failed (newly_noted p p) (faults disk) (faults disk) (in_faults inbox) (in_faults inbox) (out_faults outbox) (out_faults outbox) (omega arith) (omega arith) (omega arith) (none_noted p Disk) (none_noted p Inbox) (none_noted p Outbox)
            (none_noted p Put);
        later = omega arith;
        moments = moments;
        bytes = λ none files all. subst (AreAsListed in_tells files (left inbox)) (sym (names none)) all;
      }
        where
          limited_as : (limit : TheLimit) → IsLimitIn limit e → IsLimitIn limit f
          limited_as limit is =
              subst (λ (x : EngineState). IsLimitIn limit x) (λ i. record e { flow = sym same.flow i; store = sym store i; most = sym same.most i; journal = sym journal i }) is

      pub ended_goes : Goes s (t f)
      ended_goes = by (is_in_flight session e.out) e.failed refl refl
        where
          by : (flies failed : Bool) → is_in_flight session e.out ≡ flies → e.failed ≡ failed → Goes s (t f)
          by false failed is so =
              subst (λ (x : EngineState). Goes s (t x)) (sym (ends.unknown is)) (goes_nowhere tells held moment_of images faults in_tells left in_faults out_tells standing puts out_faults time given s order)
          by true false is so =
              let it = ends.ended is so in
              ended_by (ended_same_run session e f it) (ap (λ (x : EngineState). x.store) it.rest) (ap (λ (x : EngineState). x.journal) it.rest) (ap (λ (x : EngineState). x.failed) it.rest)
              (ended_usable session e f it tells held moment_of images in_tells (left inbox) disk so order.usable ready) is (ended_given session e f it given) (λ none. it.coming)
          by true true is so =
              let it = ends.dropped so in
              ended_by (subst (IsOfSameRun e) (sym it) (record { flow = refl; most = refl; checkpoint = refl; too_large = refl; lot = refl; id = refl })) (ap (λ (x : EngineState). x.store) it) (ap (λ (x : EngineState). x.journal) it)
              (ap (λ (x : EngineState). x.failed) it)
              (record {
                usable = λ works. absurd (true≢false (sym so ∙ sym (ap (λ (x : EngineState). x.failed) it) ∙ works));
                takeable = λ works. absurd (true≢false (sym so ∙ sym (ap (λ (x : EngineState). x.failed) it) ∙ works));
              }) is
              (λ all. subst (λ (x : EngineState). AreGiven given x) (sym it) (all.0, All-filter (λ (flight : InFlight). not (has_session session flight)) (λ (flight : InFlight). given flight.moment) e.out all.1))
              (λ none. absurd (true≢false (sym so ∙ works_on tells held moment_of images in_tells left time given s order none)))

    -- ---- memory ends

    pub wanted_goes : PlayedRunsWait held moment_of images → PlayedRunsWant tells held moment_of images → p ≡ None → (q : Option Cause) → q ≡ Some (Stopped Memory) → Goes s (record s { cause = q })
    wanted_goes waits wants none q noted_is =
        let works = works_on tells held moment_of images in_tells left time given s order none in
        let after : Seen D I O C = record s { cause = q } in
        goes_by tells held moment_of images in_tells left time given faults in_faults out_tells standing puts out_faults {A = ℕ} (Err Memory) s after none noted_is
        (order_by tells held moment_of images in_tells left time given {A = ℕ} (Err Memory) after noted_is order.usable (λ fails. absurd (true≢false (sym fails ∙ works)))
        (record { limited = λ limit is. absurd cc; damaged = λ damage is. absurd cc }) (λ is. absurd cc) (λ is. absurd cc)) (same_run e) tt (writes_none moment_of images e.store.log.number disk)
        (none_failed {A = ℕ} (Err Memory) (faults disk) (faults disk) (in_faults inbox) (in_faults inbox) (out_faults outbox) (out_faults outbox) (omega arith) (omega arith) (omega arith) (λ is. cc) (λ is. cc) (λ is. cc) (λ is. cc)) (omega arith)
        (λ all. all) tt
        (λ telling in_telling out_telling opened first start was by on. wants e opened first start (time clock) disk (left inbox) (outgoing standing puts outbox)
        (waits e opened first start was (time clock) disk (left inbox) (outgoing standing puts outbox) by on))

    -- ---- time goes by

    pub rested_goes : PlayedRunsWait held moment_of images → p ≡ None → (now : C) → time clock ≤ time now → Goes s (record s { clock = now })
    rested_goes waits none now later =
        let works = works_on tells held moment_of images in_tells left time given s order none in
        let after : Seen D I O C = record s { clock = now } in
        goes_by tells held moment_of images in_tells left time given faults in_faults out_tells standing puts out_faults {A = ℕ} (Ok 0) s after none none
        (order_by tells held moment_of images in_tells left time given {A = ℕ} (Ok 0) after none order.usable (λ fails. absurd (true≢false (sym fails ∙ works)))
        (record { limited = λ limit is. absurd cc; damaged = λ damage is. absurd cc }) (λ is. absurd cc) (λ is. absurd cc)) (same_run e) (same_log e.store.log.number e.store.log.number refl) (writes_none moment_of images e.store.log.number disk)
        (none_failed {A = ℕ} (Ok 0) (faults disk) (faults disk) (in_faults inbox) (in_faults inbox) (out_faults outbox) (out_faults outbox) (omega arith) (omega arith) (omega arith) (λ is. cc) (λ is. cc) (λ is. cc) (λ is. cc)) later
        (λ all. all) (λ files all. all)
        (λ telling in_telling out_telling opened first start was by on. waits e opened first start was (time now) disk (left inbox) (outgoing standing puts outbox) by on)
