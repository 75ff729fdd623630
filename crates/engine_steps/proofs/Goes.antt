-- How a run goes on by a session, and how it stops within one.
use Rattle.std.proofs.Common.{◌≡◌, ◌⊎◌, inl, inr, ℕ, ◌≤◌, Bool, List, [], ◌∷◌, ◌++◌, refl, sym, ap, subst, ◌∙◌, arith}
use Rattle.std.specs.Prelude.{Option, None, Some, Result, Ok, Err, IfOk, OnOk, IsSome, IsTrue, Contains}
use Rattle.std.specs.Option.{option_map_or, option_to_list}
use Rattle.disk_trait.specs.Files.{Files}
use Rattle.disk_trait.specs.Images.{Stays}
use Rattle.disk_trait.proofs.Moments.{nothing, only_read, wider}
use Rattle.flowfile_record.specs.NamedFile.{NamedFile, with_file, without}
use Rattle.flowfile_record.specs.Stored.{Kept}
use Rattle.flowfile_record.specs.declared.content.ContentRef.{ContentRef}
use Rattle.flowfile_wal.specs.Calls.{InEach}
use Rattle.content_repo.specs.Claims.{content_in}
use Rattle.kept_state.specs.declared.limit.Limit.{Limit}
use Rattle.machine_model.specs.declared.flow.Flow.{Flow}
use Rattle.machine_model.specs.declared.flow.Processor.{Processor}
use Rattle.flow_queue.specs.Queue.{QueueState}
use Rattle.machine_model.specs.Acknowledged.{steps}
use Rattle.machine_model.specs.declared.journal.Entry.{Entry}
use Rattle.machine_model.specs.declared.journal.Step.{Step}
use Rattle.machine_model.specs.Changing.{state_after}
use Rattle.machine_model.specs.Laws.{names_of_step, received_name}
use Rattle.flowfile_record.specs.declared.change.Settled.{Settled}
use Rattle.machine_model.specs.State.{Machine}
use Rattle.machine_model.specs.Stepping.{step}
use Rattle.store_core.specs.Change.{IsLimitOf, MayChange}
use Rattle.store_core.specs.Store.{StoreState, kept_by}
use Rattle.run_law.specs.Going.{IsBetween, IsRunningAt, IsSpared, IsStepped}
use Rattle.run_law.specs.Journal.{TakesFromInbox}
use Rattle.run_law.specs.Laws.{DiskFaultsEnd, FaultsEnd, InboxFaultsEnd, OutboxFaultsEnd, SparedRunsGoOn, SteppedRunsGoOn}
use Rattle.run_law.specs.Run.{HasRun, IsAtJournalLimit, IsAtLimit, IsAtStoreLimit, IsPutStep, IsStateOf, StandsFor, StepBrings}
use Rattle.run_law.specs.Turns.{IsWithinRun, last_worker, worker_behind}
use Rattle.run_law.specs.Work.{IsAtWork}
use Rattle.run_law.specs.declared.ended.Ended.{Ended}
use Rattle.run_law.specs.declared.ended.Ended.TheVariants as ending
use Rattle.run_law.specs.declared.ended.Fault.{Fault}
use Rattle.run_law.specs.declared.ended.Fault.TheVariants as fault
use Rattle.engine_session.specs.Change.{IsSentBy, IsStepOf, names_without, step_of, with_sending, without_received}
use Rattle.engine_steps.specs.Committing.{HasWritten, IsLeftBySend, with_room}
use Rattle.engine_steps.specs.Engine.{EngineState}
use Rattle.engine_steps.specs.Flights.{names_to_come}
use Rattle.engine_steps.specs.Journal.{journaled}
use Rattle.engine_steps.specs.Running.{IsRunning, Stops, undone_step}
use Rattle.engine_session.specs.declared.change.Changed.{Changed}
use Rattle.engine_session.specs.declared.change.Sending.{Sending}
use Rattle.engine_steps.specs.declared.error.EngineError.{EngineError}
use Rattle.engine_session.specs.Job.{MayHand}
use Rattle.engine_session.specs.declared.job.Job.{Job}
use Rattle.engine_steps.proofs.Commits.{work_roomy}
use Rattle.engine_steps.proofs.LastWorker.{last_behind}
use Rattle.engine_steps.proofs.Readied.{no_entry}
use Rattle.engine_steps.proofs.RunsOn.{spared_by_none}
use Rattle.run_law.specs.Puts.{IsPutBy, Outgoing, Start}
use Rattle.engine_steps.proofs.Steps.{runs_on}

abbrev pub IsNoLimit : EngineError → Type 0
IsNoLimit error = (limit : Limit) → error ≡ EngineError.Limit limit → ⊥

-- ---- the name that a session receives

pub takes_received : (flow : Flow) (k : Kept) (job : Job) (name : List ℕ) → MayHand flow k job → job.given.file ≡ Some name → TakesFromInbox flow (step_of job) name
takes_received flow k job name may file =
    let is : names_of_step flow (step_of job) ≡ name ∷ [] =
    ap (λ (p : Option Processor). option_map_or (λ p. received_name p.kind job.given.file) p []) may.found ∙ may.file ∙ ap option_to_list file in
    subst (λ (l : List (List ℕ)). Contains l name) (sym is) (0, omega arith, refl)

module _ (tells : Bool) {D : Type 0} (held : D → Files) (moment : D → ℕ) (images : D → ℕ → Files → Type 0) where
  -- calls that only read, and none
  pub spared_by_read : (flow : Flow) (lot : ℕ) (before : Machine) (old new : D) → Stays held moment images old new
      → InEach (images old (moment old)) (StandsFor flow lot before) → IsSpared flow moment images lot before old new
  spared_by_read flow lot before old new stays stands = wider moment images old new (images old (moment old)) (StandsFor flow lot before) (only_read moment images held old new stays) stands

  -- as time goes by
  pub waits : SparedRunsGoOn moment images → (e : EngineState) (opened : Machine) (first : D) (start : Start) (time by : ℕ) (disk : D) (left : List NamedFile) (out : Outgoing) → time ≤ by
      → IsRunning moment images e opened first start time disk left out → IsRunning moment images e opened first start by disk left out
  waits law e opened first start time by disk left out le run =
      runs_on moment images law e opened first start time by disk disk left out run le
      (spared_by_none tells held moment images e.flow e.store.lot run.reached disk run.to.run.holds)

  -- what is said by parts of an engine is said of it
  module _ (f : EngineState) (flow : Flow) (lot : ℕ) (journal : List Entry) (flow_is : f.flow ≡ flow) (lot_is : f.store.lot ≡ lot) (journal_is : f.journal ≡ journal)
      (opened : Machine) (first : D) (start : Start) (new : D) (left : List NamedFile) (out : Outgoing) where
    pub has_as : (ended : Ended) (later : ℕ) (next : Option Step) → HasRun flow ended start later tells held moment images lot opened first new left out journal next
        → HasRun f.flow ended start later tells held moment images f.store.lot opened first new left out f.journal next
    has_as ended later next has =
        subst (λ (fl : Flow). HasRun fl ended start later tells held moment images f.store.lot opened first new left out f.journal next) (sym flow_is)
        (subst (λ (l : ℕ). HasRun flow ended start later tells held moment images l opened first new left out f.journal next) (sym lot_is)
        (subst (λ (j : List Entry). HasRun flow ended start later tells held moment images lot opened first new left out j next) (sym journal_is) has))

    pub runs_as : (time : ℕ) (reached : Machine) → IsRunningAt flow start time moment images lot opened first new journal reached left out
        → IsRunningAt f.flow start time moment images f.store.lot opened first new f.journal reached left out
    runs_as time reached run =
        subst (λ (fl : Flow). IsRunningAt fl start time moment images f.store.lot opened first new f.journal reached left out) (sym flow_is)
        (subst (λ (l : ℕ). IsRunningAt flow start time moment images l opened first new f.journal reached left out) (sym lot_is)
        (subst (λ (j : List Entry). IsRunningAt flow start time moment images lot opened first new j reached left out) (sym journal_is) run))

    pub limit_as : (time : ℕ) (next : Option Step) (reached : Machine) (limit : Limit) → IsAtLimit flow start time tells held moment images lot journal next reached limit new
        → IsAtLimit f.flow start time tells held moment images f.store.lot f.journal next reached limit new
    limit_as time next reached limit at =
        subst (λ (fl : Flow). IsAtLimit fl start time tells held moment images f.store.lot f.journal next reached limit new) (sym flow_is)
        (subst (λ (l : ℕ). IsAtLimit flow start time tells held moment images l f.journal next reached limit new) (sym lot_is)
        (subst (λ (j : List Entry). IsAtLimit flow start time tells held moment images lot j next reached limit new) (sym journal_is) at))

  module _ (e f : EngineState) (opened : Machine) (first : D) (start : Start) (time : ℕ) (old new : D) (left : List NamedFile) (out : Outgoing)
      (run : IsRunning moment images e opened first start time old left out) (flow_is : f.flow ≡ e.flow) (lot_is : f.store.lot ≡ e.store.lot) where
    -- a fault between two steps
    ends_between : FaultsEnd tells held moment images → f.journal ≡ e.journal → IsSpared e.flow moment images e.store.lot run.reached old new → (next : Option Step) (cause : Fault) (later : ℕ) → time ≤ later
        → HasRun f.flow (ending.Fault cause) start later tells held moment images f.store.lot opened first new left out f.journal next
    ends_between law journal_is spared next cause later le =
        has_as f e.flow e.store.lot e.journal flow_is lot_is journal_is opened first start new left out (ending.Fault cause) later next
        (law e.flow start time later e.store.lot opened run.reached first old new e.journal left out next cause run.to.run le spared)

    pub stops_between : FaultsEnd tells held moment images → f.journal ≡ e.journal → IsSpared e.flow moment images e.store.lot run.reached old new → (error : EngineError) → IsNoLimit error
        → (by : ℕ) → time ≤ by → (next : Option Step) → Stops error tells held moment images f opened first start by new left out next
    stops_between law journal_is spared error none by le next = of error none
      where
        ends : (cause : Fault) (later : ℕ) → by ≤ later → HasRun f.flow (ending.Fault cause) start later tells held moment images f.store.lot opened first new left out f.journal next
        ends cause later more = ends_between law journal_is spared next cause later (omega (arith, le, more))

        of : (error : EngineError) → IsNoLimit error → Stops error tells held moment images f opened first start by new left out next
        of (EngineError.Damaged damage) none = ends (fault.Damaged damage)
        of EngineError.Disk none = ends fault.Disk
        of EngineError.Inbox none = ends fault.Inbox
        of EngineError.Outbox none = ends fault.Outbox
        of EngineError.Put none = ends fault.Outbox
        of (EngineError.Limit limit) none = absurd (none limit refl)
        of EngineError.MustReopen none = ends fault.Disk
        of EngineError.NoSession none = ends fault.Disk
        of EngineError.Memory none = ends fault.Memory

    pub stops_unmoved : FaultsEnd tells held moment images → f.journal ≡ e.journal → IsSpared e.flow moment images e.store.lot run.reached old new → (error : EngineError) → IsNoLimit error
        → (by : ℕ) → time ≤ by → (now_left : List NamedFile) (now_out : Outgoing) → now_left ≡ left → now_out ≡ out → (next : Option Step)
        → Stops error tells held moment images f opened first start by new now_left now_out next
    stops_unmoved law journal_is spared error none by le now_left now_out lies stands next =
        subst (λ (l : List NamedFile). Stops error tells held moment images f opened first start by new l now_out next) (sym lies)
        (subst (λ (o : Outgoing). Stops error tells held moment images f opened first start by new left o next) (sym stands) (stops_between law journal_is spared error none by le next))

    -- the step that the session is
    module _ (contents : ContentRef → List ℕ) (job : Job) (changed : Changed) (s : IsStepOf e.flow contents run.reached job changed) (one : Step) (one_is : step_of job ≡ one) (within : IsWithinRun start.time time one) where
      goes_one : step e.flow run.reached one ≡ Some s.after
      goes_one = ap (step e.flow run.reached) (sym one_is) ∙ s.goes

      within_by : (later : ℕ) → time ≤ later → IsWithinRun start.time later one
      within_by later by = (within.0, omega (arith, within.1, by))

      -- what was sent, as what the step puts
      put_one : (now_out : Outgoing) → now_out ≡ with_sending changed.sending out → IsPutBy e.flow run.reached one s.after out now_out
      put_one now_out sent =
          subst (λ (x : Step). IsPutBy e.flow run.reached x s.after out now_out) one_is
          (subst (λ (o : Outgoing). IsPutBy e.flow run.reached (step_of job) s.after out o) (sym sent) (s.outbox out run.to.run.stands.standing))

      -- the disk's within the step
      pub stops_within : DiskFaultsEnd tells held moment images → f.journal ≡ e.journal ++ record { step = one; acked = None } ∷ []
          → IsBetween e.flow moment images e.store.lot run.reached s.after old new → (now_out : Outgoing) → now_out ≡ with_sending changed.sending out
          → Stops EngineError.Disk tells held moment images f opened first start time new left now_out None
      stops_within law journal_is between now_out sent later by =
          has_as f e.flow e.store.lot (e.journal ++ record { step = one; acked = None } ∷ []) flow_is lot_is journal_is opened first start new left now_out (ending.Fault fault.Disk) later None
          (law e.flow start time later e.store.lot opened run.reached s.after first old new e.journal one left out now_out run.to.run by (within_by later by) goes_one between
          (put_one now_out sent))

      -- the outbox's at the put, which was tried or left everything as it was
      pub stops_at_put : FaultsEnd tells held moment images → OutboxFaultsEnd tells held moment images → f.journal ≡ e.journal
          → IsSpared e.flow moment images e.store.lot run.reached old new → (now_out : Outgoing) → IsLeftBySend changed.sending out now_out
          → Stops EngineError.Put tells held moment images f opened first start time new left now_out (Some one)
      stops_at_put between law journal_is spared now_out is later by = at_put changed.sending s.sent (put_one (with_sending changed.sending out) refl) is
        where
          at_put : (sending : Option Sending) → IsSentBy e.flow run.reached (step_of job) sending → IsPutBy e.flow run.reached one s.after out (with_sending sending out) → IsLeftBySend sending out now_out
              → HasRun f.flow (ending.Fault fault.Outbox) start later tells held moment images f.store.lot opened first new left now_out f.journal (Some one)
          at_put None from puts is = absurd is
          at_put (Some sending) from puts (inl same) =
              subst (λ (o : Outgoing). HasRun f.flow (ending.Fault fault.Outbox) start later tells held moment images f.store.lot opened first new left o f.journal (Some one)) (sym same)
              (ends_between between journal_is spared (Some one) fault.Outbox later by)
          at_put (Some sending) from puts (inr tried) =
              has_as f e.flow e.store.lot e.journal flow_is lot_is journal_is opened first start new left now_out (ending.Fault fault.Outbox) later (Some one)
              (law e.flow start time later e.store.lot opened run.reached s.after first old new e.journal one left out now_out sending.name sending.bytes run.to.run spared by (within_by later by) goes_one
              (subst (λ (x : Step). IsPutStep e.flow run.reached x sending.name) one_is from)
              (sym puts.standing ∙ ap (λ (o : List ℕ → Option (List ℕ)). with_file o sending.name sending.bytes) run.to.run.stands.standing) tried.others (tried.puts ∙ puts.puts))

      -- the inbox's behind the step
      pub stops_behind : InboxFaultsEnd tells held moment images → f.journal ≡ e.journal ++ record { step = one; acked = Some (moment new) } ∷ []
          → IsStepped e.flow moment images e.store.lot run.reached s.after old new → (name : List ℕ) → TakesFromInbox e.flow (step_of job) name
          → (now_left : List NamedFile) → (now_left ≡ left) ⊎ (now_left ≡ without name left)
          → (now_out : Outgoing) → now_out ≡ with_sending changed.sending out
          → Stops EngineError.Inbox tells held moment images f opened first start time new now_left now_out None
      stops_behind law journal_is stepped name takes now_left either now_out sent later by =
          has_as f e.flow e.store.lot (e.journal ++ record { step = one; acked = Some (moment new) } ∷ []) flow_is lot_is journal_is opened first start new now_left now_out (ending.Fault fault.Inbox) later None
          (law e.flow start time later e.store.lot opened run.reached s.after first old new e.journal one name left now_left out now_out run.to.run by (within_by later by) goes_one stepped
          (subst (λ (x : Step). TakesFromInbox e.flow x name) one_is takes) either
          (put_one now_out sent))

      -- a limit, before the put
      pub stops_at_limit : SparedRunsGoOn moment images → (limit : Limit)
          → IsSpared e.flow moment images e.store.lot run.reached old new → f.journal ≡ e.journal → names_to_come f ≡ names_to_come e → f.last ≡ e.last
          → images new (moment new) (held new)
          → IsAtStoreLimit e.flow tells held moment images limit run.reached one s.after new ⊎ IsAtJournalLimit limit e.journal
          → Stops (EngineError.Limit limit) tells held moment images f opened first start time new left out (Some one)
      stops_at_limit law limit spared journal_is names last image met =
          let on = law e.flow start time time e.store.lot opened run.reached first old new e.journal left out run.to.run (omega arith) spared in
          record {
            reached = run.reached;
            to = record {
              run = runs_as f e.flow e.store.lot e.journal flow_is lot_is journal_is opened first start new left out time run.reached on;
              coming = run.to.coming ∙ sym names;
              last = last ∙ run.to.last ∙ ap (λ (j : List Entry). last_worker None (steps j)) (sym journal_is);
            };
            met = limit_as f e.flow e.store.lot e.journal flow_is lot_is journal_is opened first start new left out time (Some one) run.reached limit (record {
              one = one;
              is = refl;
              within = within;
              after = s.after;
              goes = goes_one;
              stands = on.holds (held new) image;
              met = met;
            });
          }

      -- a step: the journal has one entry more
      pub enters : SteppedRunsGoOn moment images → f.journal ≡ e.journal ++ record { step = one; acked = Some (moment new) } ∷ []
          → IsStepped e.flow moment images e.store.lot run.reached s.after old new
          → (now_left : List NamedFile) → now_left ≡ without_received job.given.file left
          → (now_out : Outgoing) → now_out ≡ with_sending changed.sending out
          → f.last ≡ worker_behind None one → names_to_come f ≡ names_without job.given.file (names_to_come e)
          → worker_behind (last_worker None (steps e.journal)) one ≡ worker_behind None one
          → IsRunning moment images f opened first start time new now_left now_out
      enters law journal_is stepped now_left lies now_out stands last names worked =
          let entry : Entry = record { step = one; acked = Some (moment new) } in
          record {
            reached = s.after;
            to = record {
              run = runs_as f e.flow e.store.lot (e.journal ++ entry ∷ []) flow_is lot_is journal_is opened first start new now_left now_out time s.after
                  (law e.flow start time time e.store.lot opened run.reached s.after first old new e.journal one left now_left out now_out run.to.run (omega arith) within goes_one stepped
                  (lies ∙ ap (without_received job.given.file) run.to.run.lies ∙ sym s.inbox)
                  (put_one now_out stands));
              coming = s.coming ∙ ap (names_without job.given.file) run.to.coming ∙ sym names;
              last = last ∙ sym worked ∙ sym (last_behind None e.journal entry) ∙ ap (λ (j : List Entry). last_worker None (steps j)) (sym journal_is);
            };
          }

  -- the limit that a change would pass, by a store with other room
  pub store_limit : (flow : Flow) (before after : Machine) (one : Step) (settled : Settled) (limit : Limit) (room : ℕ) (was t : StoreState) (disk : D) → t ≡ with_room room was → IsAtWork flow tells held moment images was disk
      → IsStateOf before (content_in (held disk)) (kept_by was) → MayChange (kept_by was) settled → StepBrings flow before one settled → state_after (content_in (held disk)) before.state settled ≡ after.state
      → IsLimitOf was settled limit → IsAtStoreLimit flow tells held moment images limit before one after disk
  store_limit flow before after one settled limit room was t disk is work tied may brings makes passes =
      let works = work_roomy flow tells held moment images was t room disk is work in
      record {
        store = t;
        works = works.works;
        kept = works.kept;
        tied = subst (λ (u : StoreState). IsStateOf before (content_in (held disk)) (kept_by u)) (sym is) tied;
        settled = settled;
        may = subst (λ (u : StoreState). MayChange (kept_by u) settled) (sym is) may;
        brings = brings;
        makes = makes;
        passes = subst (λ (u : StoreState). IsLimitOf u settled limit) (sym is) passes;
      }

  -- a session that is written: its change is sent and committed, with this answer
  module _ (e : EngineState) (opened : Machine) (first : D) (start : Start) (time : ℕ) (mid new : D) (left : List NamedFile) (out now_out : Outgoing) (run : IsRunning moment images e opened first start time mid left out)
      (job : Job) (changed : Changed) (s : IsStepOf e.flow (content_in (held mid)) run.reached job changed) (one : Step) (one_is : step_of job ≡ one) (within : IsWithinRun start.time time one)
      (was t : StoreState) (queues now_queues : List QueueState) (same_lot : was.lot ≡ e.store.lot)
      (work : IsAtWork e.flow tells held moment images was mid) (tied : IsStateOf run.reached (content_in (held mid)) (kept_by was))
      (out_tells : Bool) (out_telling : IsTrue out_tells) (result : Result ℕ EngineError)
      (written : HasWritten result tells held moment images out_tells was t queues now_queues changed out now_out mid new) where
    still : IsSpared e.flow moment images e.store.lot run.reached mid mid
    still = wider moment images mid mid (images mid (moment mid)) (StandsFor e.flow e.store.lot run.reached) (nothing moment images mid) run.to.run.holds

    lot_now : t.lot ≡ e.store.lot
    lot_now = written.lot.0 ∙ same_lot

    holds_there : InEach (images mid (moment mid)) (StandsFor e.flow was.lot run.reached)
    holds_there = subst (λ (lot : ℕ). InEach (images mid (moment mid)) (StandsFor e.flow lot run.reached)) (sym same_lot) run.to.run.holds

    -- ---- it is acknowledged

    module _ (m : ℕ) (is : result ≡ Ok m) (f : EngineState) (flow_is : f.flow ≡ e.flow) (lot_is : f.store.lot ≡ t.lot) (journal_is : f.journal ≡ journaled result one e.journal) where
      moment_now : m ≡ moment new
      moment_now = subst (λ (r : Result ℕ EngineError). IfOk r (λ answer. answer ≡ moment new)) is written.moment_is

      stepped_now : IsStepped e.flow moment images e.store.lot run.reached s.after mid new
      stepped_now =
          subst (λ (lot : ℕ). IsStepped e.flow moment images lot run.reached s.after mid new) same_lot
          ((subst (λ (r : Result ℕ EngineError). OnOk r ((flow : Flow) (before after : Machine) → IsAtWork flow tells held moment images was mid → InEach (images mid (moment mid)) (StandsFor flow was.lot before)
          → state_after (content_in (held mid)) before.state changed.settled ≡ after.state → IsStepped flow moment images was.lot before after mid new)) is written.stepped)
          e.flow run.reached s.after work holds_there s.state)

      sent_now : now_out ≡ with_sending changed.sending out
      sent_now = (subst (λ (r : Result ℕ EngineError). OnOk r (IsTrue out_tells → now_out ≡ with_sending changed.sending out)) is written.sent) out_telling

      journal_now : f.journal ≡ e.journal ++ record { step = one; acked = Some (moment new) } ∷ []
      journal_now = journal_is ∙ ap (λ (r : Result ℕ EngineError). journaled r one e.journal) is ∙ ap (λ (n : ℕ). e.journal ++ record { step = one; acked = Some n } ∷ []) moment_now

      pub enters_written : SteppedRunsGoOn moment images → (now_left : List NamedFile) → now_left ≡ without_received job.given.file left
          → f.last ≡ worker_behind None one → names_to_come f ≡ names_without job.given.file (names_to_come e) → worker_behind (last_worker None (steps e.journal)) one ≡ worker_behind None one
          → IsRunning moment images f opened first start time new now_left now_out
      enters_written law now_left lies last names worked =
          enters e f opened first start time mid new left out run flow_is (lot_is ∙ lot_now) (content_in (held mid)) job changed s one one_is within law journal_now stepped_now now_left lies now_out sent_now last names worked

      pub stops_unremoved : InboxFaultsEnd tells held moment images → (name : List ℕ) → TakesFromInbox e.flow (step_of job) name → (now_left : List NamedFile) → (now_left ≡ left) ⊎ (now_left ≡ without name left)
          → Stops EngineError.Inbox tells held moment images f opened first start time new now_left now_out None
      stops_unremoved law name takes now_left either =
          stops_behind e f opened first start time mid new left out run flow_is (lot_is ∙ lot_now) (content_in (held mid)) job changed s one one_is within law journal_now stepped_now name takes now_left either now_out sent_now

    -- ---- it is refused

    module _ (error : EngineError) (is : result ≡ Err error) (f : EngineState) (flow_is : f.flow ≡ e.flow) (store_is : f.store ≡ t) (journal_is : f.journal ≡ journaled result one e.journal) where
      lot_is : f.store.lot ≡ e.store.lot
      lot_is = ap (λ (u : StoreState). u.lot) store_is ∙ lot_now

      -- the journal stays where the commit hadn't begun
      unjournaled : (error ≡ EngineError.Disk → ⊥) → f.journal ≡ e.journal
      unjournaled other = journal_is ∙ ap (λ (r : Result ℕ EngineError). journaled r one e.journal) is ∙ no_entry error one e.journal other

      -- where the commit hadn't begun and nothing was put, the run goes on
      pub goes_on_unwritten : SparedRunsGoOn moment images → names_to_come f ≡ names_to_come e → f.last ≡ e.last → (error ≡ EngineError.Disk → ⊥) → (error ≡ EngineError.Put → ⊥)
          → IsRunning moment images f opened first start time new left now_out
      goes_on_unwritten law names last disk outbox =
          subst (λ (d : D). IsRunning moment images f opened first start time d left now_out) (sym (written.unwritten error is disk).0)
          (subst (λ (o : Outgoing). IsRunning moment images f opened first start time mid left o) (sym (written.unsent error is disk outbox))
          (record {
            reached = run.reached;
            to = record {
              run = runs_as f e.flow e.store.lot e.journal flow_is lot_is (unjournaled disk) opened first start mid left out time run.reached
                  (law e.flow start time time e.store.lot opened run.reached first mid mid e.journal left out run.to.run (omega arith) still);
              coming = run.to.coming ∙ sym names;
              last = last ∙ run.to.last ∙ ap (λ (j : List Entry). last_worker None (steps j)) (sym (unjournaled disk));
            };
          }))

      stops_unwritten : FaultsEnd tells held moment images → IsNoLimit error → (error ≡ EngineError.Disk → ⊥) → (error ≡ EngineError.Put → ⊥)
          → (next : Option Step) → Stops error tells held moment images f opened first start time new left now_out next
      stops_unwritten law none disk outbox next =
          subst (λ (d : D). Stops error tells held moment images f opened first start time d left now_out next) (sym (written.unwritten error is disk).0)
          (stops_unmoved e f opened first start time mid mid left out run flow_is lot_is law (unjournaled disk) still error none time (omega arith) left now_out refl (written.unsent error is disk outbox) next)

    stops_cut_off : DiskFaultsEnd tells held moment images → result ≡ Err EngineError.Disk → (f : EngineState) → f.flow ≡ e.flow → f.store.lot ≡ e.store.lot → f.journal ≡ journaled result one e.journal
        → Stops EngineError.Disk tells held moment images f opened first start time new left now_out None
    stops_cut_off law is f flow_is lot_is journal_is =
        stops_within e f opened first start time mid new left out run flow_is lot_is (content_in (held mid)) job changed s one one_is within law
        (journal_is ∙ ap (λ (r : Result ℕ EngineError). journaled r one e.journal) is)
        (subst (λ (lot : ℕ). IsBetween e.flow moment images lot run.reached s.after mid new) same_lot (written.cut_off is e.flow run.reached s.after work holds_there s.state))
        now_out (written.sent_before is out_telling)

    stops_put : FaultsEnd tells held moment images → OutboxFaultsEnd tells held moment images → (is : result ≡ Err EngineError.Put) → (f : EngineState) → f.flow ≡ e.flow → f.store ≡ t → f.journal ≡ journaled result one e.journal
        → Stops EngineError.Put tells held moment images f opened first start time new left now_out (Some one)
    stops_put between law is f flow_is store_is journal_is =
        let other : EngineError.Put ≡ EngineError.Disk → ⊥ = λ e. cc in
        subst (λ (d : D). Stops EngineError.Put tells held moment images f opened first start time d left now_out (Some one)) (sym (written.unwritten EngineError.Put is other).0)
        (stops_at_put e f opened first start time mid mid left out run flow_is (ap (λ (u : StoreState). u.lot) store_is ∙ lot_now) (content_in (held mid)) job changed s one one_is within between law
        (unjournaled EngineError.Put is f flow_is store_is journal_is other) still now_out (written.put is out_telling))

    module _ (spared : SparedRunsGoOn moment images) (image : images mid (moment mid) (held mid)) (may : MayChange (kept_by was) changed.settled) (limit : Limit) (f : EngineState)
        (flow_is : f.flow ≡ e.flow) (store_is : f.store ≡ t) (names : names_to_come f ≡ names_to_come e) (last : f.last ≡ e.last) where
      stops_past : (is : result ≡ Err (EngineError.Limit limit)) → f.journal ≡ journaled result one e.journal
          → Stops (EngineError.Limit limit) tells held moment images f opened first start time new left now_out (Some one)
      stops_past is journal_is =
          let other : EngineError.Limit limit ≡ EngineError.Disk → ⊥ = λ e. cc in
          let another : EngineError.Limit limit ≡ EngineError.Put → ⊥ = λ e. cc in
          let same = written.unwritten (EngineError.Limit limit) is other in
          subst (λ (d : D). Stops (EngineError.Limit limit) tells held moment images f opened first start time d left now_out (Some one)) (sym same.0)
          (subst (λ (o : Outgoing). Stops (EngineError.Limit limit) tells held moment images f opened first start time mid left o (Some one)) (sym (written.unsent (EngineError.Limit limit) is other another))
          (stops_at_limit e f opened first start time mid mid left out run flow_is (ap (λ (u : StoreState). u.lot) store_is ∙ lot_now) (content_in (held mid)) job changed s one one_is within spared limit still
          (unjournaled (EngineError.Limit limit) is f flow_is store_is journal_is other) names last image
          (inl (store_limit e.flow run.reached s.after one changed.settled limit t.memory.room was t mid same.1 work tied may
          (subst (λ (x : Step). StepBrings e.flow run.reached x changed.settled) one_is s.brings) s.state (written.passes limit is)))))

    -- whichever error it is
    pub stops_written : FaultsEnd tells held moment images → DiskFaultsEnd tells held moment images → OutboxFaultsEnd tells held moment images → SparedRunsGoOn moment images → images mid (moment mid) (held mid)
        → MayChange (kept_by was) changed.settled → (error : EngineError) → result ≡ Err error → (f : EngineState) → f.flow ≡ e.flow → f.store ≡ t → f.journal ≡ journaled result one e.journal → names_to_come f ≡ names_to_come e → f.last ≡ e.last
        → Stops error tells held moment images f opened first start time new left now_out (undone_step error (Some one))
    stops_written between disk outbox spared image may (EngineError.Damaged damage) is f flow_is store_is journal_is names last =
        stops_unwritten (EngineError.Damaged damage) is f flow_is store_is journal_is between (λ limit e. cc) (λ e. cc) (λ e. cc) None
    stops_written between disk outbox spared image may EngineError.Inbox is f flow_is store_is journal_is names last = stops_unwritten EngineError.Inbox is f flow_is store_is journal_is between (λ limit e. cc) (λ e. cc) (λ e. cc) None
    stops_written between disk outbox spared image may EngineError.Outbox is f flow_is store_is journal_is names last = stops_unwritten EngineError.Outbox is f flow_is store_is journal_is between (λ limit e. cc) (λ e. cc) (λ e. cc) None
    stops_written between disk outbox spared image may EngineError.MustReopen is f flow_is store_is journal_is names last = stops_unwritten EngineError.MustReopen is f flow_is store_is journal_is between (λ limit e. cc) (λ e. cc) (λ e. cc) None
    stops_written between disk outbox spared image may EngineError.NoSession is f flow_is store_is journal_is names last = stops_unwritten EngineError.NoSession is f flow_is store_is journal_is between (λ limit e. cc) (λ e. cc) (λ e. cc) None
    stops_written between disk outbox spared image may EngineError.Memory is f flow_is store_is journal_is names last = stops_unwritten EngineError.Memory is f flow_is store_is journal_is between (λ limit e. cc) (λ e. cc) (λ e. cc) None
    stops_written between disk outbox spared image may EngineError.Disk is f flow_is store_is journal_is names last = stops_cut_off disk is f flow_is (ap (λ (u : StoreState). u.lot) store_is ∙ lot_now) journal_is
    stops_written between disk outbox spared image may EngineError.Put is f flow_is store_is journal_is names last = stops_put between outbox is f flow_is store_is journal_is
    stops_written between disk outbox spared image may (EngineError.Limit limit) is f flow_is store_is journal_is names last = stops_past spared image may limit f flow_is store_is names last is journal_is

pub named_so : (o : Option (List ℕ)) → IsSome o → (name : List ℕ) × (o ≡ Some name)
named_so None some = absurd cc
named_so (Some name) some = (name, refl)
