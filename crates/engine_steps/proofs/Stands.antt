-- What a session in flight is handed stands in the machine's state and world.
use Rattle.std.proofs.Common.{◌≡◌, ℕ, Bool, true, false, cond, ◌≤◌, List, [], ◌∷◌, length, map, true≢false, refl, sym, ap, subst, ◌∙◌}
use Rattle.std.specs.Prelude.{◌&&◌, IsTrue, Option, None, Some, filter, slice_get, slice_index, bytes_eq, option_and_then}
use Rattle.std.specs.Option.{IsSomeAnd}
use Rattle.std.proofs.lemmas.Slice.Eq.{bytes_eq-Decides}
use Rattle.flowfile_record.specs.NamedFile.{NamedFile, bytes_of}
use Rattle.flowfile_record.specs.Stored.{Kept}
use Rattle.flowfile_record.specs.declared.TheConstants.{CONTENT_MAX}
use Rattle.flowfile_record.specs.declared.content.ContentRef.{ContentRef}
use Rattle.checkpoint_store.specs.Consistent.{IsConsistent}
use Rattle.machine_model.specs.declared.flow.Flow.{Flow}
use Rattle.machine_model.specs.declared.flow.Processor.{Processor}
use Rattle.machine_model.specs.declared.given.Given.{Given}
use Rattle.machine_model.specs.declared.kind.Kind.{Kind}
use Rattle.machine_model.specs.declared.kind.Kind.TheVariants.{GetFile, GenerateFlowFile, PutFile}
use Rattle.machine_model.specs.declared.pattern.Pattern.{Pattern}
use Rattle.machine_model.specs.Changing.{queued_file}
use Rattle.machine_model.specs.Kinds.{is_among, take_rule_of}
use Rattle.machine_model.specs.State.{Machine, QueuedFile, State, World}
use Rattle.machine_model.specs.Stepping.{given_in, is_there, may_generate, may_get, same_bool, taken_files}
use Rattle.machine_model.specs.Sound.{IsSound}
use Rattle.store_core.specs.Flow.{flow_in}
use Rattle.engine_change.specs.Committing.{identity_of}
use Rattle.engine_queues.specs.Views.{HaveSizes}
use Rattle.engine_choice.specs.Choice.{coming_of}
use Rattle.engine_choice.specs.Laws.{IsSessionAt, given_for, numbers_in}
use Rattle.engine_choice.specs.declared.choice.Choice.{Choice}
use Rattle.engine_choice.specs.declared.choice.Taking.{Taking}
use Rattle.engine_choice.specs.declared.choice.Taking.TheVariants.{Files, Generate, Receive}
use Rattle.engine_session.specs.Handing.{live_files}
use Rattle.engine_session.specs.Laws.{MachinesFilesAreLive}
use Rattle.engine_session.specs.Taken.{IsAmong, IsNextIndex, MayStillTake, TakenAreSessions, TakesStill}
use Rattle.run_law.specs.Journal.{inbox_left}
use Rattle.run_law.specs.Run.{IsStateOf}
use Rattle.engine_steps.specs.Handing.{HasBytes, HasBytesOf, JobIsHanded, IsHandedAs, asks_outbox, there_for}
use Rattle.engine_session.specs.Job.{JobStandsIn}
use Rattle.engine_session.specs.declared.job.Job.{Job}
use Rattle.engine_steps.specs.declared.flight.InFlight.{InFlight}
use Rattle.engine_steps.proofs.Told.{asks_by, told_given}

-- ---- a file that is left

abbrev among : List (List ℕ) → NamedFile → Bool
among names file = is_among file.name names

-- a file that is left stands in the inbox under its name, which is left
found_list : (names : List (List ℕ)) (name bytes : List ℕ) (files : List NamedFile) → bytes_of (filter (among names) files) name ≡ Some bytes → (is_among name names ≡ true) × (bytes_of files name ≡ Some bytes)
found_list names name bytes [] found = absurd cc
found_list names name bytes (file ∷ files) found = by (is_among file.name names) refl found (λ later. found_list names name bytes files later)
  where
    kept : is_among file.name names ≡ true → (b : Bool) → bytes_eq file.name name ≡ b → cond b (Some file.bytes) (bytes_of (filter (among names) files) name) ≡ Some bytes
        → (bytes_of (filter (among names) files) name ≡ Some bytes → (is_among name names ≡ true) × (bytes_of files name ≡ Some bytes))
        → (is_among name names ≡ true) × (cond b (Some file.bytes) (bytes_of files name) ≡ Some bytes)
    kept some true same found later = (subst (λ (n : List ℕ). is_among n names ≡ true) ((bytes_eq-Decides file.name name).0 same) some, found)
    kept some false same found later = later found

    dropped : is_among file.name names ≡ false → (b : Bool) → bytes_eq file.name name ≡ b → (is_among name names ≡ true) × (bytes_of files name ≡ Some bytes)
        → (is_among name names ≡ true) × (cond b (Some file.bytes) (bytes_of files name) ≡ Some bytes)
    dropped none true same there =
        absurd (true≢false (sym there.0 ∙ subst (λ (n : List ℕ). is_among n names ≡ false) ((bytes_eq-Decides file.name name).0 same) none))
    dropped none false same there = there

    by : (b : Bool) → is_among file.name names ≡ b → bytes_of (cond b (file ∷ filter (among names) files) (filter (among names) files)) name ≡ Some bytes
        → (bytes_of (filter (among names) files) name ≡ Some bytes → (is_among name names ≡ true) × (bytes_of files name ≡ Some bytes))
        → (is_among name names ≡ true) × (cond (bytes_eq file.name name) (Some file.bytes) (bytes_of files name) ≡ Some bytes)
    by true some found later = kept some (bytes_eq file.name name) refl found later
    by false none found later = dropped none (bytes_eq file.name name) refl (later found)

found_left : (w : World) (name bytes : List ℕ) → bytes_of (inbox_left w) name ≡ Some bytes → (is_among name w.left ≡ true) × (bytes_of w.inbox name ≡ Some bytes)
found_left w name bytes found = found_list w.left name bytes w.inbox found

-- ---- what it is given

got_so : (b : Bool) (given handed : Given) → cond b (Some given) None ≡ Some handed → given ≡ handed
got_so true given handed is = cc
got_so false given handed is = absurd cc

handed_alike : (kind : Kind) (place : ℕ) (state : State) (world : World) (files : List QueuedFile) (given handed : Given) → given.file ≡ None → given_in kind place state world files given ≡ Some handed → given ≡ handed
handed_alike (GetFile filter) place state world files given handed none is =
    let F : List ℕ → Option Given = λ name. cond (may_get filter world name) (Some (record given { bytes = bytes_of world.inbox name })) None in
    let nothing : option_and_then F None ≡ Some handed = ap (option_and_then F) (sym none) ∙ is in
    absurd cc
handed_alike (GenerateFlowFile count text) place state world files given handed none is = got_so (may_generate count (slice_index state.counts place) given.index) given handed is
handed_alike (PutFile conflict) place state world files given handed none is = got_so (same_bool given.there (is_there world files)) given handed is
handed_alike kind place state world files given handed none is = cc

received_back : (filter : Option Pattern) (place : ℕ) (state : State) (world : World) (files : List QueuedFile) (given handed : Given) (name : List ℕ) → given.file ≡ Some name
    → given_in (GetFile filter) place state world files given ≡ Some handed → record given { bytes = bytes_of world.inbox name } ≡ handed
received_back filter place state world files given handed name file is =
    let F : List ℕ → Option Given = λ name. cond (may_get filter world name) (Some (record given { bytes = bytes_of world.inbox name })) None in
    got_so (may_get filter world name) (record given { bytes = bytes_of world.inbox name }) handed (ap (option_and_then F) (sym file) ∙ is)

-- the bytes of a file that is left are those that the inbox had
bytes_in : (left : List NamedFile) (world : World) (name : List ℕ) (bytes : Option (List ℕ)) → left ≡ inbox_left world → IsSomeAnd bytes (λ bytes. length bytes ≤ CONTENT_MAX) → bytes_of left name ≡ bytes → bytes_of world.inbox name ≡ bytes
bytes_in left world name None lies some is = absurd some
bytes_in left world name (Some bytes) lies some is = (found_left world name bytes (ap (λ (l : List NamedFile). bytes_of l name) (sym lies) ∙ is)).1

module _ (flow : Flow) (k : Kept) (moment place : ℕ) (state : State) (world : World) (files : List QueuedFile) (left : List NamedFile) (lies : left ≡ inbox_left world) (given handed : Given) where
  pub handed_so : (kind : Kind) (taking : Taking) → MayStillTake flow k moment place kind taking → record given { bytes = None } ≡ given_for moment given.there taking → HasBytes taking given.bytes
      → HasBytesOf left taking given.bytes → given_in kind place state world files (record given { bytes = None }) ≡ Some handed → handed ≡ given
  handed_so (GetFile filter) (Receive name) takes is has bytes gives =
      let back = received_back filter place state world files (record given { bytes = None }) handed name (ap (λ (g : Given). g.file) is) gives in
      sym back ∙ (λ i. record given { bytes = bytes_in left world name given.bytes lies has bytes i })
  handed_so kind (Files connection numbers) takes is has bytes gives =
      sym (handed_alike kind place state world files (record given { bytes = None }) handed (ap (λ (g : Given). g.file) is) gives) ∙ (λ i. record given { bytes = sym has i })
  handed_so kind (Generate index) takes is has bytes gives =
      sym (handed_alike kind place state world files (record given { bytes = None }) handed (ap (λ (g : Given). g.file) is) gives) ∙ (λ i. record given { bytes = sym has i })
  handed_so kind (Receive name) takes is has bytes gives = absurd takes

-- where all devices tell
pub all_told : {tells in_tells out_tells : Bool} {flow : Flow} {k : Kept} {contents : ContentRef → List ℕ} {left : List NamedFile} {standing : List ℕ → Option (List ℕ)} {choice : Choice} {job : Job}
    → IsHandedAs tells in_tells out_tells flow k contents left standing choice job → IsTrue tells → IsTrue in_tells → IsTrue out_tells → IsHandedAs true true true flow k contents left standing choice job
all_told told telling in_telling out_telling =
    record { read = λ all. told.read telling; received = λ all. told.received in_telling; there = λ all. told.there out_telling; unasked = told.unasked }

moment_of : (moment : ℕ) (there : Bool) (taking : Taking) → (given_for moment there taking).moment ≡ moment
moment_of moment there (Files connection numbers) = refl
moment_of moment there (Generate index) = refl
moment_of moment there (Receive name) = refl

module _ (sessions : TakenAreSessions) (live : MachinesFilesAreLive) (flow : Flow) (k : Kept) (flight : InFlight) (contents : ContentRef → List ℕ) (m : Machine) (left : List NamedFile)
    (standing : List ℕ → Option (List ℕ)) (job : Job) where
  abbrev place : ℕ
  place = flight.choice.processor

  abbrev taking : Taking
  taking = flight.choice.taking

  pub stands_in : IsSound flow → IsConsistent k → k.batches ≡ [] → flow_in k ≡ identity_of flow → HaveSizes contents k → TakesStill flow k flight.moment flight.choice → IsNextIndex k.counts place taking
      → IsAmong (coming_of m.world) taking → IsStateOf m contents k → left ≡ inbox_left m.world → standing ≡ m.world.outbox
      → JobIsHanded k flight job → IsHandedAs true true true flow k contents left standing flight.choice job → JobStandsIn flow k contents m job
  stands_in sound consistent no_batches flow_is sizes still next comes tied lies stands handed told =
      let at = subst (λ (s : State). IsSessionAt flow s m.world flight.moment flight.choice) tied.is
      (sessions flow contents m.state.events k m.world flight.moment flight.choice sound consistent no_batches flow_is tied.events sizes still next comes) in
      let both : Some still.processor ≡ Some at.processor = sym still.there ∙ at.found in
      let same : still.processor ≡ at.processor = cc in
      let takes = subst (λ (p : Processor). MayStillTake flow k flight.moment place p.kind taking) same still.takes in
      let rule = take_rule_of at.processor.kind in
      let are_live = live flow k contents m.state.events place rule (numbers_in taking) flight.moment at.files flow_is consistent no_batches tied.events
      (ap (λ (s : State). taken_files flow s place rule (numbers_in taking) flight.moment) tied.is ∙ at.taken) in
      let files : at.files ≡ map (queued_file contents) job.files =
      are_live.are ∙ ap (map (queued_file contents)) (ap (live_files k) (sym handed.numbers) ∙ sym handed.taken.are) in
      let time : job.given.moment ≡ flight.moment = ap (λ (g : Given). g.moment) handed.given ∙ moment_of flight.moment job.given.there taking in
      let there : job.given.there ≡ asks_outbox at.processor.kind && is_there m.world at.files =
      told.there refl m.world (sym stands) ∙ ap (there_for flow place m.world) (sym files) ∙ ap (λ (b : Bool). b && is_there m.world at.files) (asks_by flow place at.processor at.found) in
      let given = told_given at.processor.kind place m.state m.world at.files flight.moment job.given.there taking at.handed there at.given in
      let gives : given_in at.processor.kind place m.state m.world at.files (record job.given { bytes = None }) ≡ Some given.0 =
      ap (given_in at.processor.kind place m.state m.world at.files) handed.given ∙ given.1 in
      let back = handed_so flow k flight.moment place m.state m.world at.files left lies job.given given.0 at.processor.kind taking takes handed.given handed.has (told.received refl) gives in
      record {
        processor = at.processor;
        found = ap (slice_get flow.processors) handed.processor ∙ at.found;
        read = told.read refl;
        taken = (λ i. taken_files flow m.state (handed.processor i) rule (handed.numbers i) (time i)) ∙ at.taken ∙ ap Some files;
        given = (λ i. given_in at.processor.kind (handed.processor i) m.state m.world (sym files i) (record job.given { bytes = None })) ∙ gives ∙ ap Some back;
      }
