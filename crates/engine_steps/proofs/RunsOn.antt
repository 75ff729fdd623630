-- How a run goes on over what an engine tends, and how it stops there.
use Rattle.std.proofs.Common.{◌≡◌, ◌⊎◌, inl, inr, ℕ, ◌≤◌, Bool, List, [], ◌∷◌, ◌++◌, refl, sym, ap, subst, ◌∙◌, arith}
use Rattle.std.proofs.lemmas.List.{append-nil}
use Rattle.std.specs.Prelude.{Err, Ok, OnOk, Option, None, Result, Some}
use Rattle.disk_trait.specs.Files.{Files}
use Rattle.disk_trait.proofs.Moments.{nothing, wider}
use Rattle.flowfile_record.specs.NamedFile.{NamedFile}
use Rattle.flowfile_wal.specs.Calls.{InEach}
use Rattle.kept_state.specs.declared.limit.Limit.{Limit}
use Rattle.machine_model.specs.declared.flow.Flow.{Flow}
use Rattle.machine_model.specs.declared.journal.Entry.{Entry}
use Rattle.machine_model.specs.declared.journal.Step.{Step}
use Rattle.machine_model.specs.declared.journal.Step.TheVariants.{Age, Expire, Session, SwapIn, SwapOut}
use Rattle.machine_model.specs.Acknowledged.{steps}
use Rattle.machine_model.specs.State.{Machine, World}
use Rattle.engine_choice.specs.Choice.{coming_of}
use Rattle.run_law.specs.Going.{IsRunningAt, IsSpared}
use Rattle.run_law.specs.Journal.{inbox_left}
use Rattle.run_law.specs.Laws.{DiskFaultsEnd, FaultsEnd, IsOfQueue, QueuesLeaveTheWorld, SparedRunsGoOn, SteppedRunsGoOn}
use Rattle.run_law.specs.Run.{HasRun, IsAtJournalLimit, IsAtLimit, IsAtStoreLimit, StandsFor}
use Rattle.run_law.specs.Turns.{IsWithinRun, last_worker, step_moment, worker_behind}
use Rattle.run_law.proofs.Turns.{since_start}
use Rattle.run_law.specs.declared.ended.Ended.{Ended}
use Rattle.run_law.specs.declared.ended.Ended.TheVariants as ending
use Rattle.run_law.specs.declared.ended.Fault.{Fault}
use Rattle.run_law.specs.declared.ended.Fault.TheVariants as fault
use Rattle.engine_steps.specs.Engine.{EngineState, IsOfSameRun}
use Rattle.engine_steps.specs.Errors.{ended_by}
use Rattle.engine_steps.specs.Running.{IsLimited, IsRunning, IsRunningTo, Stops, undone_step}
use Rattle.engine_steps.specs.Tending.{GoesTo, IsCutOff, StepIsDone}
use Rattle.engine_steps.specs.declared.error.EngineError.{EngineError}
use Rattle.run_law.specs.Puts.{IsPutBy, Outgoing, Start, puts_of_step}
use Rattle.engine_steps.specs.Flights.{names_to_come}
use Rattle.engine_steps.proofs.LastWorker.{last_behind}

-- a step of a queue is no session
queues_leave_the_worker : (last : Option ℕ) (one : Step) → IsOfQueue one → worker_behind last one ≡ last
queues_leave_the_worker last (Session processor numbers moment given) queue = absurd queue
queues_leave_the_worker last (Expire connection numbers moment) queue = refl
queues_leave_the_worker last (SwapOut connection numbers batch) queue = refl
queues_leave_the_worker last (SwapIn connection batch) queue = refl
queues_leave_the_worker last (Age line) queue = refl

-- .. and puts nothing
queues_put_nothing : (flow : Flow) (before : Machine) (one : Step) → IsOfQueue one → puts_of_step flow before one ≡ []
queues_put_nothing flow before (Session processor numbers moment given) queue = absurd queue
queues_put_nothing flow before (Expire connection numbers moment) queue = refl
queues_put_nothing flow before (SwapOut connection numbers batch) queue = refl
queues_put_nothing flow before (SwapIn connection batch) queue = refl
queues_put_nothing flow before (Age line) queue = refl

put_by_queue : (flow : Flow) (before after : Machine) (one : Step) (out : Outgoing) → IsOfQueue one → after.world ≡ before.world → out.standing ≡ before.world.outbox → IsPutBy flow before one after out out
put_by_queue flow before after one out queue world stands = record {
  standing = stands ∙ ap (λ (w : World). w.outbox) (sym world);
  puts = sym (ap (λ (l : List NamedFile). out.puts ++ l) (queues_put_nothing flow before one queue) ∙ append-nil out.puts);
}

module _ {D : Type 0} (tells : Bool) (held : D → Files) (moment : D → ℕ) (images : D → ℕ → Files → Type 0) where
  -- nothing was called
  pub spared_by_none : (flow : Flow) (lot : ℕ) (before : Machine) (disk : D) → InEach (images disk (moment disk)) (StandsFor flow lot before) → IsSpared flow moment images lot before disk disk
  spared_by_none flow lot before disk stands = wider moment images disk disk (images disk (moment disk)) (StandsFor flow lot before) (nothing moment images disk) stands

  -- the state before a step, and all that a stop may leave then
  abbrev pub StandsIn : EngineState → D → Machine → Type 0
  StandsIn e disk m = InEach (images disk (moment disk)) (StandsFor e.flow e.store.lot m)

  -- a step that is made no earlier than the run's time is one of the run, up to a later time
  pub made_behind : (e : EngineState) (opened : Machine) (first now : D) (start : Start) (time later : ℕ) (left : List NamedFile) (out : Outgoing) (one : Step) → IsRunning moment images e opened first start time now left out
      → time ≤ step_moment one → step_moment one ≤ later → IsWithinRun start.time later one
  made_behind e opened first now start time later left out one run by le = (omega (arith, since_start start.time time (steps e.journal) run.to.run.within, by), le)

  -- It runs on as another of the same run, behind calls of the disk.
  module _ (e f : EngineState) (same : IsOfSameRun e f) (opened : Machine) (first old new : D) (start : Start) (time : ℕ) (left : List NamedFile) (out : Outgoing) where
    runs_at : (later : ℕ) (journal : List Entry) (reached : Machine) → f.journal ≡ journal → IsRunningAt e.flow start later moment images e.store.lot opened first new journal reached left out
        → IsRunningAt f.flow start later moment images f.store.lot opened first new f.journal reached left out
    runs_at later journal reached is run =
        subst (λ (j : List Entry). IsRunningAt f.flow start later moment images f.store.lot opened first new j reached left out) (sym is)
        (subst (λ (lot : ℕ). IsRunningAt f.flow start later moment images lot opened first new journal reached left out) (sym same.lot)
        (subst (λ (flow : Flow). IsRunningAt flow start later moment images e.store.lot opened first new journal reached left out) (sym same.flow) run))

    has_run : (ended : Ended) (later : ℕ) (journal : List Entry) (next : Option Step) → f.journal ≡ journal → HasRun e.flow ended start later tells held moment images e.store.lot opened first new left out journal next
        → HasRun f.flow ended start later tells held moment images f.store.lot opened first new left out f.journal next
    has_run ended later journal next is has =
        subst (λ (j : List Entry). HasRun f.flow ended start later tells held moment images f.store.lot opened first new left out j next) (sym is)
        (subst (λ (lot : ℕ). HasRun f.flow ended start later tells held moment images lot opened first new left out journal next) (sym same.lot)
        (subst (λ (flow : Flow). HasRun flow ended start later tells held moment images e.store.lot opened first new left out journal next) (sym same.flow) has))

    -- calls that leave what the disk stands for
    runs_to : SparedRunsGoOn moment images → (later : ℕ) → time ≤ later → f.journal ≡ e.journal → names_to_come f ≡ names_to_come e → f.last ≡ e.last
        → (reached : Machine) → (StandsIn e old reached → IsSpared e.flow moment images e.store.lot reached old new)
        → IsRunningTo moment images e opened first start time old left out reached → IsRunningTo moment images f opened first start later new left out reached
    runs_to law later by journal names last reached spared to = record {
      run = runs_at later e.journal reached journal (law e.flow start time later e.store.lot opened reached first old new e.journal left out to.run by (spared to.run.holds));
      coming = to.coming ∙ sym names;
      last = last ∙ to.last ∙ ap (λ (j : List Entry). last_worker None (steps j)) (sym journal);
    }

    pub runs_spared : SparedRunsGoOn moment images → (later : ℕ) → time ≤ later → f.journal ≡ e.journal → names_to_come f ≡ names_to_come e → f.last ≡ e.last
        → ((m : Machine) → StandsIn e old m → IsSpared e.flow moment images e.store.lot m old new)
        → IsRunning moment images e opened first start time old left out → IsRunning moment images f opened first start later new left out
    runs_spared law later by journal names last spared run = record { reached = run.reached; to = runs_to law later by journal names last run.reached (spared run.reached) run.to }

    -- or none was made
    pub runs_unwritten : SparedRunsGoOn moment images → (later : ℕ) → time ≤ later → new ≡ old → f.journal ≡ e.journal → names_to_come f ≡ names_to_come e → f.last ≡ e.last
        → IsRunning moment images e opened first start time old left out → IsRunning moment images f opened first start later new left out
    runs_unwritten law later by disk journal names last run =
        runs_spared law later by journal names last (λ m stands. subst (λ (d : D). IsSpared e.flow moment images e.store.lot m old d) (sym disk) (spared_by_none e.flow e.store.lot m old stands)) run

    -- a fault between two steps
    pub stops_spared : FaultsEnd tells held moment images → (error : EngineError) (cause : Fault) → ended_by error ≡ ending.Fault cause → f.journal ≡ e.journal
        → ((m : Machine) → StandsIn e old m → IsSpared e.flow moment images e.store.lot m old new) → IsRunning moment images e opened first start time old left out
        → (next : Option Step) (later : ℕ) → time ≤ later → HasRun f.flow (ended_by error) start later tells held moment images f.store.lot opened first new left out f.journal next
    stops_spared law error cause is journal spared run next later by =
        has_run (ended_by error) later e.journal next journal
        (subst (λ (ended : Ended). HasRun e.flow ended start later tells held moment images e.store.lot opened first new left out e.journal next) (sym is)
        (law e.flow start time later e.store.lot opened run.reached first old new e.journal left out next cause run.to.run by (spared run.reached run.to.run.holds)))

    -- the disk's, or want of memory
    pub stops_by : FaultsEnd tells held moment images → (error : EngineError) → (error ≡ EngineError.Disk) ⊎ (error ≡ EngineError.Memory) → (later : ℕ) → time ≤ later → f.journal ≡ e.journal
        → ((m : Machine) → StandsIn e old m → IsSpared e.flow moment images e.store.lot m old new)
        → IsRunning moment images e opened first start time old left out → (next : Option Step) → Stops error tells held moment images f opened first start later new left out next
    stops_by law error (inl is) later by journal spared run next =
        subst (λ (er : EngineError). Stops er tells held moment images f opened first start later new left out next) (sym is)
        (λ end le. stops_spared law EngineError.Disk fault.Disk refl journal spared run next end (omega (arith, by, le)))
    stops_by law error (inr is) later by journal spared run next =
        subst (λ (er : EngineError). Stops er tells held moment images f opened first start later new left out next) (sym is)
        (λ end le. stops_spared law EngineError.Memory fault.Memory refl journal spared run next end (omega (arith, by, le)))

    -- a step of a queue
    module _ (leaves : QueuesLeaveTheWorld) (one : Step) (queue : IsOfQueue one) (by : time ≤ step_moment one) where
      pub runs_stepped : SteppedRunsGoOn moment images → f.journal ≡ e.journal ++ record { step = one; acked = Some (moment new) } ∷ [] → names_to_come f ≡ names_to_come e → f.last ≡ e.last
          → ((m : Machine) → StandsIn e old m → StepIsDone e.flow moment images e.store.lot m one old new)
          → IsRunning moment images e opened first start time old left out → IsRunning moment images f opened first start (step_moment one) new left out
      runs_stepped law journal names last done run =
          let it = done run.reached run.to.run.holds in
          let world : it.after.world ≡ run.reached.world = leaves e.flow run.reached it.after one it.goes queue in
          let entry : Entry = record { step = one; acked = Some (moment new) } in
          record {
            reached = it.after;
            to = record {
              run = runs_at (step_moment one) (e.journal ++ entry ∷ []) it.after journal
                  (law e.flow start time (step_moment one) e.store.lot opened run.reached it.after first old new e.journal one left left out out run.to.run by
                  (made_behind e opened first old start time (step_moment one) left out one run by (omega arith)) it.goes it.is_so
                  (run.to.run.lies ∙ ap inbox_left (sym world)) (put_by_queue e.flow run.reached it.after one out queue world run.to.run.stands.standing));
              coming = ap coming_of world ∙ run.to.coming ∙ sym names;
              last = last ∙ run.to.last ∙ sym (ap (λ (j : List Entry). last_worker None (steps j)) journal ∙ last_behind None e.journal entry ∙ queues_leave_the_worker (last_worker None (steps e.journal)) one queue);
            };
          }

      pub stops_cut_off : DiskFaultsEnd tells held moment images → f.journal ≡ e.journal ++ record { step = one; acked = None } ∷ []
          → ((m : Machine) → StandsIn e old m → IsCutOff e.flow moment images e.store.lot m one old new) → IsRunning moment images e opened first start time old left out
          → (later : ℕ) → step_moment one ≤ later → HasRun f.flow (ended_by EngineError.Disk) start later tells held moment images f.store.lot opened first new left out f.journal None
      stops_cut_off law journal cut run later le =
          let it = cut run.reached run.to.run.holds in
          let world : it.after.world ≡ run.reached.world = leaves e.flow run.reached it.after one it.goes queue in
          has_run (ended_by EngineError.Disk) later (e.journal ++ record { step = one; acked = None } ∷ []) None journal
          (law e.flow start time later e.store.lot opened run.reached it.after first old new e.journal one left out out run.to.run (omega (arith, by, le))
          (made_behind e opened first old start time later left out one run by le) it.goes it.is_so
          (put_by_queue e.flow run.reached it.after one out queue world run.to.run.stands.standing))

    -- a limit, of the store or of the journal, before anything was called for the step
    module _ (one : Step) (limit : Limit) (by : time ≤ step_moment one) where
      abbrev pub IsMet : Machine → Machine → Type 0
      IsMet m after = StandsFor e.flow e.store.lot m (held old) × (IsAtStoreLimit e.flow tells held moment images limit m one after old ⊎ IsAtJournalLimit limit e.journal)

      limit_at : (m : Machine) → new ≡ old → f.journal ≡ e.journal → IsAtLimit e.flow start (step_moment one) tells held moment images e.store.lot e.journal (Some one) m limit old
          → IsAtLimit f.flow start (step_moment one) tells held moment images f.store.lot f.journal (Some one) m limit new
      limit_at m disk journal met =
          subst (λ (d : D). IsAtLimit f.flow start (step_moment one) tells held moment images f.store.lot f.journal (Some one) m limit d) (sym disk)
          (subst (λ (j : List Entry). IsAtLimit f.flow start (step_moment one) tells held moment images f.store.lot j (Some one) m limit old) (sym journal)
          (subst (λ (lot : ℕ). IsAtLimit f.flow start (step_moment one) tells held moment images lot e.journal (Some one) m limit old) (sym same.lot)
          (subst (λ (flow : Flow). IsAtLimit flow start (step_moment one) tells held moment images e.store.lot e.journal (Some one) m limit old) (sym same.flow) met)))

      pub stops_limited : SparedRunsGoOn moment images → new ≡ old → f.journal ≡ e.journal → names_to_come f ≡ names_to_come e → f.last ≡ e.last
          → ((m : Machine) → StandsIn e old m → GoesTo e.flow m one (IsMet m))
          → IsRunning moment images e opened first start time old left out → IsLimited tells held moment images f limit opened first start (step_moment one) new left out (Some one)
      stops_limited law disk journal names last limited run =
          let it = limited run.reached run.to.run.holds in
          record {
            reached = run.reached;
            to = runs_to law (step_moment one) by journal names last run.reached (λ stands. subst (λ (d : D). IsSpared e.flow moment images e.store.lot run.reached old d) (sym disk) (spared_by_none e.flow e.store.lot run.reached old stands)) run.to;
            met = limit_at run.reached disk journal (record {
              one = one;
              is = refl;
              within = made_behind e opened first old start time (step_moment one) left out one run by (omega arith);
              after = it.after;
              goes = it.goes;
              stands = it.is_so.0;
              met = it.is_so.1;
            });
          }

    -- a step of a queue that failed
    module _ (leaves : QueuesLeaveTheWorld) (one : Step) (queue : IsOfQueue one) (by : time ≤ step_moment one)
        (law : SparedRunsGoOn moment images) (between : FaultsEnd tells held moment images) (disk_fails : DiskFaultsEnd tells held moment images) (error : EngineError)
        (names : names_to_come f ≡ names_to_come e) (last : f.last ≡ e.last) (open_journal : error ≡ EngineError.Disk → f.journal ≡ e.journal ++ record { step = one; acked = None } ∷ [])
        (cut : error ≡ EngineError.Disk → (m : Machine) → StandsIn e old m → IsCutOff e.flow moment images e.store.lot m one old new) (unwritten : (error ≡ EngineError.Disk → ⊥) → (new ≡ old) × (f.journal ≡ e.journal))
        (limited : (limit : Limit) → error ≡ EngineError.Limit limit → (m : Machine) → StandsIn e old m
        → GoesTo e.flow m one (λ after. StandsFor e.flow e.store.lot m (held old) × IsAtStoreLimit e.flow tells held moment images limit m one after old))
        (run : IsRunning moment images e opened first start time old left out) where
      by_memory : error ≡ EngineError.Memory → Stops error tells held moment images f opened first start (step_moment one) new left out (undone_step error (Some one))
      by_memory is =
          let stays = unwritten (λ disk. let both : EngineError.Memory ≡ EngineError.Disk = sym is ∙ disk in cc) in
          stops_by between error (inr is) (step_moment one) by stays.1
          (λ m stands. subst (λ (d : D). IsSpared e.flow moment images e.store.lot m old d) (sym stays.0) (spared_by_none e.flow e.store.lot m old stands)) run (undone_step error (Some one))

      by_disk : error ≡ EngineError.Disk → Stops error tells held moment images f opened first start (step_moment one) new left out (undone_step error (Some one))
      by_disk is =
          subst (λ (er : EngineError). Stops er tells held moment images f opened first start (step_moment one) new left out (undone_step er (Some one))) (sym is)
          (stops_cut_off leaves one queue by disk_fails (open_journal is) (cut is) run)

      by_limit : (limit : Limit) → error ≡ EngineError.Limit limit → Stops error tells held moment images f opened first start (step_moment one) new left out (undone_step error (Some one))
      by_limit limit is =
          let stays = unwritten (λ disk. let both : EngineError.Limit limit ≡ EngineError.Disk = sym is ∙ disk in cc) in
          subst (λ (er : EngineError). Stops er tells held moment images f opened first start (step_moment one) new left out (undone_step er (Some one))) (sym is)
          (stops_limited one limit by law stays.0 stays.1 names last
          (λ m stands. let it = limited limit is m stands in record { after = it.after; goes = it.goes; is_so = (it.is_so.0, inl it.is_so.1) }) run)

      pub stops_failed : (error ≡ EngineError.Disk) ⊎ (error ≡ EngineError.Memory) ⊎ ((limit : Limit) × (error ≡ EngineError.Limit limit))
          → Stops error tells held moment images f opened first start (step_moment one) new left out (undone_step error (Some one))
      stops_failed (inl is) = by_disk is
      stops_failed (inr (inl is)) = by_memory is
      stops_failed (inr (inr is)) = by_limit is.0 is.1

  -- nothing was called, and time went by
  module _ (e : EngineState) (opened : Machine) (first disk : D) (start : Start) (time later : ℕ) (by : time ≤ later) (left : List NamedFile) (out : Outgoing) (run : IsRunning moment images e opened first start time disk left out) where
    pub runs_idle : SparedRunsGoOn moment images → IsRunning moment images e opened first start later disk left out
    runs_idle law =
        runs_spared e e (record { flow = refl; most = refl; checkpoint = refl; too_large = refl; lot = refl; id = refl }) opened first disk disk start time left out law later by refl refl refl
        (λ m stands. spared_by_none e.flow e.store.lot m disk stands) run

    pub stops_wanting : FaultsEnd tells held moment images → (error : EngineError) → error ≡ EngineError.Memory → (next : Option Step) → Stops error tells held moment images e opened first start later disk left out next
    stops_wanting law error is next =
        stops_by e e (record { flow = refl; most = refl; checkpoint = refl; too_large = refl; lot = refl; id = refl }) opened first disk disk start time left out law error (inr is) later by refl
        (λ m stands. spared_by_none e.flow e.store.lot m disk stands) run next

  -- at which moment nothing was due is no part of the run
  pub runs_tended : (e : EngineState) (tended : Option ℕ) (opened : Machine) (first disk : D) (start : Start) (time : ℕ) (left : List NamedFile) (out : Outgoing) → IsRunning moment images e opened first start time disk left out
      → IsRunning moment images (record e { tended = tended }) opened first start time disk left out
  runs_tended e tended opened first disk start time left out run = record { reached = run.reached; to = record { run = run.to.run; coming = run.to.coming; last = run.to.last } }

-- ---- results

pub on_ok_leads : {A E : Type 0} (result : Result A E) (P Q : Type 0) → (P → Q) → OnOk result P → OnOk result Q
on_ok_leads (Ok x) P Q leads is = leads is
on_ok_leads (Err e) P Q leads is = tt
