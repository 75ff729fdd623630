-- What stands of a session in flight that is entered into the journal.
use Rattle.std.proofs.Common.{◌≡◌, ℕ, ◌≤◌, Bool, true, List, [], ◌∷◌, length, map, refl, sym, ap, subst, ◌∙◌}
use Rattle.std.specs.Prelude.{find, Option, None, Some, IfSome, IsTrue, IsSome}
use Rattle.disk_trait.specs.Files.{Files}
use Rattle.flowfile_record.specs.NamedFile.{NamedFile, bytes_of}
use Rattle.flowfile_record.specs.Stored.{Kept}
use Rattle.flowfile_record.specs.declared.TheConstants.{CONTENT_MAX}
use Rattle.flowfile_record.specs.declared.flow_file.FlowFile.{FlowFile}
use Rattle.flowfile_wal.specs.Calls.{InEach}
use Rattle.checkpoint_store.specs.Consistent.{IsConsistent}
use Rattle.content_repo.specs.Claims.{content_in}
use Rattle.kept_state.specs.Fits.{are_active_in}
use Rattle.machine_model.specs.declared.flow.Flow.{Flow}
use Rattle.machine_model.specs.declared.given.Given.{Given}
use Rattle.machine_model.specs.declared.journal.Step.TheVariants.{Session}
use Rattle.machine_model.specs.State.{Machine}
use Rattle.store_core.specs.Store.{FilesHold, kept_by}
use Rattle.engine_queues.specs.Laws.{HeldContentsHaveSizes}
use Rattle.engine_choice.specs.Laws.{given_for}
use Rattle.engine_choice.specs.declared.choice.Taking.{Taking}
use Rattle.engine_choice.specs.declared.choice.Taking.TheVariants.{Files as OfFiles, Generate, Receive}
use Rattle.engine_session.specs.Change.{IsStepOf, MakesStep, TellsOfWork, step_of}
use Rattle.engine_session.specs.Done.{IsWorkOn, step_done}
use Rattle.engine_session.specs.Handing.{AreTaken, live_files}
use Rattle.engine_session.specs.Job.{MayHand}
use Rattle.engine_session.specs.Laws.{MachinesFilesAreLive}
use Rattle.engine_session.specs.Taken.{TakenAreSessions}
use Rattle.engine_session.specs.declared.change.Changed.{Changed}
use Rattle.engine_session.specs.declared.done.Done.{Done}
use Rattle.engine_session.specs.declared.job.Job.{Job}
use Rattle.engine_session.proofs.Lookups.{live_head, live_one, live_rest}
use Rattle.run_law.specs.Journal.{TakesFromInbox}
use Rattle.run_law.specs.Puts.{Outgoing, Start}
use Rattle.run_law.specs.Run.{IsStateOf, StandsFor}
use Rattle.run_law.specs.Turns.{IsWithinRun}
use Rattle.run_law.specs.Work.{IsAtWork}
use Rattle.engine_steps.specs.Commit.{IndexIsNext, StandsSo}
use Rattle.engine_steps.specs.Engine.{AreTakeable, EngineState}
use Rattle.engine_steps.specs.Flights.{IsCheckedOutWithin, files_of_flight, has_session, names_to_come, received_in}
use Rattle.engine_steps.specs.Handing.{JobIsHanded, MayBeReceived}
use Rattle.engine_steps.specs.OwnJob.{IsJobOf}
use Rattle.engine_steps.specs.Ready.{EngineIsReady}
use Rattle.engine_steps.specs.Running.{IsRunning}
use Rattle.engine_steps.specs.declared.flight.InFlight.{InFlight}
use Rattle.engine_steps.proofs.Files.{some_and}
use Rattle.engine_steps.proofs.Flights.{the_flight}
use Rattle.engine_steps.proofs.Goes.{takes_received}
use Rattle.engine_steps.proofs.Stands.{all_told}
use Rattle.engine_steps.proofs.Steps.{is_received, steps}

-- ---- what a session is handed, by what it takes

-- the job has the name that is received
job_receives : (moment : ℕ) (taking : Taking) (given : Given) → record given { bytes = None } ≡ given_for moment given.there taking → given.file ≡ received_in taking
job_receives moment (Receive name) given is = ap (λ (g : Given). g.file) is
job_receives moment (OfFiles connection numbers) given is = ap (λ (g : Given). g.file) is
job_receives moment (Generate index) given is = ap (λ (g : Given). g.file) is

-- its file is left
is_left : (left : List NamedFile) (taking : Taking) → MayBeReceived left taking → IfSome (received_in taking) (λ name. IsSome (bytes_of left name))
is_left left (Receive name) may = (some_and (λ bytes. length bytes ≤ CONTENT_MAX) (bytes_of left name) may).0
is_left left (OfFiles connection numbers) may = tt
is_left left (Generate index) may = tt

-- the files are those of the numbers
live_numbers : (k : Kept) (connection : ℕ) (numbers : List ℕ) → are_active_in k.files connection numbers ≡ true → map (λ (file : FlowFile). file.number) (live_files k numbers) ≡ numbers
live_numbers k connection [] all = refl
live_numbers k connection (number ∷ numbers) all =
    let has = live_head k.files connection number numbers all in
    ap (map (λ (file : FlowFile). file.number)) (live_one k connection number numbers has)
    ∙ (λ i. has.named i ∷ live_numbers k connection numbers (live_rest k.files connection number numbers all) i)

taken_numbers : (k : Kept) (flight : InFlight) (job : Job) → JobIsHanded k flight job → map (λ (file : FlowFile). file.number) job.files ≡ files_of_flight flight
taken_numbers k flight job handed =
    ap (map (λ (file : FlowFile). file.number)) handed.taken.are ∙ live_numbers k job.connection job.numbers handed.taken.active ∙ handed.numbers

-- ---- work whose job stands

moment_given : (moment : ℕ) (there : Bool) (taking : Taking) → (given_for moment there taking).moment ≡ moment
moment_given moment there (OfFiles connection numbers) = refl
moment_given moment there (Generate index) = refl
moment_given moment there (Receive name) = refl

module _ (tells : Bool) {D : Type 0} (held : D → Files) (moment : D → ℕ) (images : D → ℕ → Files → Type 0) (e : EngineState) (disk : D) (ready : EngineIsReady tells held moment images e disk) (in_tells out_tells : Bool)
    (left : List NamedFile) (out : Outgoing) (done : Done) (stands : StandsSo tells in_tells out_tells e (content_in (held disk)) left out.standing done) where
  abbrev pub flight_at : InFlight
  flight_at = stands.0

  abbrev pub job_at : Job
  job_at = stands.1

  next_at : IndexIsNext e flight_at
  next_at = stands.2

  own_at : IsJobOf tells in_tells out_tells e (content_in (held disk)) left out.standing flight_at job_at
  own_at = stands.3

  work_at : IsWorkOn e.flow (kept_by e.store).store job_at done
  work_at = stands.4

  pub found_at : find (has_session done.session) e.out ≡ Some flight_at
  found_at =
      subst (λ (session : ℕ). find (has_session session) e.out ≡ Some flight_at) (sym (work_at.session ∙ own_at.handed.session))
      (the_flight e.out flight_at own_at.flying ready.memory.flights.apart)

  -- the entry is the step of its job
  pub step_at : step_of job_at ≡ step_done done
  step_at =
      let given : record job_at.given { bytes = None } ≡ record done.given { bytes = None } = sym (ap (λ (g : Given). record g { bytes = None }) work_at.given.but_bytes) in
      let time : job_at.given.moment ≡ done.given.moment = sym (ap (λ (g : Given). g.moment) work_at.given.but_bytes) in
      λ i. Session (sym work_at.processor i) (sym work_at.numbers i) (time i) (given i)

  -- the files that are gone are those that it took
  pub gone_at : (changed : Changed) → TellsOfWork done changed → changed.settled.gone ≡ files_of_flight flight_at
  gone_at changed told =
      told.session.gone ∙ ap (map (λ (file : FlowFile). file.number)) work_at.files ∙ taken_numbers (kept_by e.store) flight_at job_at own_at.handed

  -- it was checked out at the step's moment
  pub within_at : (since until : ℕ) → IsCheckedOutWithin since until done.session e.out → IsWithinRun since until (step_done done)
  within_at since until out =
      let within = out flight_at found_at in
      let at : done.given.moment ≡ flight_at.moment =
      ap (λ (g : Given). g.moment) work_at.given.but_bytes ∙ ap (λ (g : Given). g.moment) own_at.handed.given ∙ moment_given flight_at.moment job_at.given.there flight_at.choice.taking in
      (subst (λ (m : ℕ). since ≤ m) (sym at) within.0, subst (λ (m : ℕ). m ≤ until) (sym at) within.1)

  -- ---- the file that it receives

  pub file_at : done.given.file ≡ job_at.given.file
  file_at = ap (λ (g : Given). g.file) work_at.given.but_bytes

  pub received_at : done.given.file ≡ received_in flight_at.choice.taking
  received_at = file_at ∙ job_receives flight_at.moment flight_at.choice.taking job_at.given own_at.handed.given

  pub left_at : (IsTrue in_tells → AreTakeable left (names_to_come e)) → (received : Option (List ℕ)) → received ≡ done.given.file → IfSome received (λ name. IsTrue in_tells → IsSome (bytes_of left name))
  left_at takeable received copy =
      subst (λ (o : Option (List ℕ)). IfSome o (λ name. IsTrue in_tells → IsSome (bytes_of left name))) (sym (copy ∙ received_at))
      (where_told (received_in flight_at.choice.taking)
      (λ telling. is_left left flight_at.choice.taking (is_received tells held moment images e disk ready flight_at own_at.flying left (takeable telling))))
    where
      where_told : (o : Option (List ℕ)) → (IsTrue in_tells → IfSome o (λ name. IsSome (bytes_of left name))) → IfSome o (λ name. IsTrue in_tells → IsSome (bytes_of left name))
      where_told None all = tt
      where_told (Some name) all = all

  pub takes_at : (name : List ℕ) → done.given.file ≡ Some name → TakesFromInbox e.flow (step_of job_at) name
  takes_at name file = takes_received e.flow (kept_by e.store) job_at name own_at.may (sym file_at ∙ file)

  -- ---- where the engine's fields are those of its value

  module _ (v : EngineState) (is : v ≡ e) where
    pub may_in : MayHand v.flow (kept_by v.store) job_at
    may_in = subst (λ (x : EngineState). MayHand x.flow (kept_by x.store) job_at) (sym is) own_at.may

    pub work_in : IsWorkOn v.flow (kept_by v.store).store job_at done
    work_in = subst (λ (x : EngineState). IsWorkOn x.flow (kept_by x.store).store job_at done) (sym is) work_at

    -- where the disk tells, the files of the job stand so
    pub read_in : IsTrue tells → AreTaken (kept_by v.store) job_at.connection job_at.numbers (content_in (held disk)) job_at.files job_at.contents
    read_in telling =
        subst (λ (x : EngineState). AreTaken (kept_by x.store) job_at.connection job_at.numbers (content_in (held disk)) job_at.files job_at.contents) (sym is) (own_at.told.read telling)

    -- what it makes is a step
    pub steps_in : HeldContentsHaveSizes → TakenAreSessions → MachinesFilesAreLive → IsConsistent (kept_by v.store) × ((kept_by v.store).batches ≡ []) → FilesHold v.store (held disk)
        → ((flow : Flow) → IsAtWork flow tells held moment images v.store disk → (m : Machine) → InEach (images disk (moment disk)) (StandsFor flow v.store.lot m) → IsStateOf m (content_in (held disk)) (kept_by v.store))
        → IsTrue tells → IsTrue in_tells → IsTrue out_tells → (opened : Machine) (first : D) (start : Start) (time : ℕ) (run : IsRunning moment images e opened first start time disk left out) → (changed : Changed)
        → ((job : Job) → MayHand v.flow (kept_by v.store) job → IsWorkOn v.flow (kept_by v.store).store job done → MakesStep v.flow (kept_by v.store) job changed)
        → IsStepOf e.flow (content_in (held disk)) run.reached job_at changed × IsStateOf run.reached (content_in (held disk)) (kept_by e.store)
    steps_in sizes sessions live kept holds tied telling in_telling out_telling opened first start time run changed makes =
        let tie = tied e.flow (subst (λ (x : EngineState). IsAtWork e.flow tells held moment images x.store disk) (sym is) ready.work) run.reached
        (subst (λ (x : EngineState). InEach (images disk (moment disk)) (StandsFor e.flow x.store.lot run.reached)) (sym is) run.to.run.holds) in
        let tie_now = subst (λ (x : EngineState). IsStateOf run.reached (content_in (held disk)) (kept_by x.store)) is tie in
        let kept_now = subst (λ (x : EngineState). IsConsistent (kept_by x.store) × ((kept_by x.store).batches ≡ [])) is kept in (
          steps tells held moment images e disk ready flight_at own_at.flying sessions sizes live kept_now.0 kept_now.1 (subst (λ (x : EngineState). FilesHold x.store (held disk)) is holds) next_at opened first start time left out run
              tie_now job_at changed own_at.handed (all_told own_at.told telling in_telling out_telling)
              (subst (λ (x : EngineState). MakesStep x.flow (kept_by x.store) job_at changed) is (makes job_at may_in work_in)),
          tie_now,
        )
