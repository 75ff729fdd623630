-- That what shows of the work on a job tells whose work it is.
use Rattle.std.proofs.Common.{◌≡◌, ℕ, Bool, List, [], ◌∷◌, length, map, refl, sym, ap, subst, ◌∙◌}
use Rattle.std.specs.Prelude.{Option, None, Some, slice_get}
use Rattle.std.specs.Option.{option_to_list}
use Rattle.flowfile_record.specs.NamedFile.{NamedFile}
use Rattle.flowfile_record.specs.Stored.{Kept}
use Rattle.flowfile_record.specs.declared.content.ContentRef.{ContentRef}
use Rattle.flowfile_record.specs.declared.flow_file.FlowFile.{FlowFile}
use Rattle.flowfile_record.specs.declared.worked.Outcome.{Outcome}
use Rattle.machine_model.specs.declared.flow.Flow.{Flow}
use Rattle.machine_model.specs.declared.given.Given.{Given}
use Rattle.machine_model.specs.declared.kind.Kind.{Kind}
use Rattle.machine_model.specs.declared.kind.Kind.TheVariants.{GetFile}
use Rattle.machine_model.specs.Acting.{received}
use Rattle.machine_model.specs.Kinds.{take_rule_of}
use Rattle.machine_model.specs.Laws.{MayTake, received_name}
use Rattle.process_session.specs.Bench.{taken_source}
use Rattle.process_session.specs.declared.file.Source.{Source}
use Rattle.process_session.specs.declared.file.Taken.{Taken}
use Rattle.processor_api.specs.Acts.{IsOutcomeOf, KeepsGiven}
use Rattle.store_core.specs.Store.{kept_by}
use Rattle.engine_session.specs.Handing.{live_files, taken_as, taken_with_contents}
use Rattle.engine_session.specs.Working.{IsWorkOf}
use Rattle.engine_choice.specs.Laws.{given_for}
use Rattle.engine_choice.specs.declared.choice.Taking.{Taking}
use Rattle.engine_choice.specs.declared.choice.Taking.TheVariants.{Files, Generate, Receive}
use Rattle.engine_session.specs.Done.{HasBytesFrom, WorkIsDone, IsSame, IsWorkOn, ReceivesAs, first_made}
use Rattle.engine_steps.specs.Handing.{HasBytes, JobIsHanded}
use Rattle.engine_session.specs.Job.{MayHand}
use Rattle.engine_session.specs.declared.done.Done.{Done}
use Rattle.engine_session.specs.declared.job.Job.{Job}
use Rattle.engine_steps.specs.Engine.{EngineState}
use Rattle.engine_steps.specs.Flights.{received_in}
use Rattle.engine_steps.specs.OwnJob.{IsJobOf}
use Rattle.engine_steps.specs.declared.flight.InFlight.{InFlight}
use Rattle.engine_steps.proofs.StandsStill.{file_given}

-- ---- what is given

-- bytes are given for a file that is received alone
bytes_by : (moment : ℕ) (taking : Taking) (given : Given) → record given { bytes = None } ≡ given_for moment given.there taking → HasBytes taking given.bytes → given.file ≡ None → given.bytes ≡ None
bytes_by moment (Receive name) given is has none = let both : Some name ≡ None = sym (ap (λ (g : Given). g.file) is) ∙ none in absurd cc
bytes_by moment (Files connection numbers) given is has none = has
bytes_by moment (Generate index) given is has none = has

pub none_given : (k : Kept) (flight : InFlight) (job : Job) → JobIsHanded k flight job → job.given.file ≡ None → job.given.bytes ≡ None
none_given k flight job handed none = bytes_by flight.moment flight.choice.taking job.given handed.given handed.has none

-- ---- what was taken, by what stays of it

abbrev bytes_in : List Source → List (Option (List ℕ))
bytes_in sources = map (λ source. source.bytes) sources

same_taken : (store : ℕ) (files : List FlowFile) (contents : List (Option (List ℕ))) → taken_with_contents store files (bytes_in (map taken_source (taken_with_contents store files contents))) ≡ taken_with_contents store files contents
same_taken store [] [] = refl
same_taken store [] (c ∷ contents) = refl
same_taken store (file ∷ files) [] = refl
same_taken store (file ∷ files) (c ∷ contents) = ap (λ (taken : List Taken). taken_as store (file, c) ∷ taken) (same_taken store files contents)

-- ---- the bytes of a file that is received

no_numbers : (numbers : List ℕ) → length numbers ≡ 0 → numbers ≡ []
no_numbers [] is = refl
no_numbers (n ∷ numbers) is = absurd cc

made_so : (file bytes : Option (List ℕ)) (name : List ℕ) (outcome : Outcome) → file ≡ Some name → received file bytes ≡ Some outcome → first_made outcome ≡ bytes
made_so None bytes name outcome file is = absurd cc
made_so (Some n) None name outcome file is = absurd cc
made_so (Some n) (Some b) name outcome file is =
    let F : Option Outcome → Option (List ℕ) = λ o. made_in o in
    sym (ap F is)
  where
    made_in : Option Outcome → Option (List ℕ)
    made_in None = None
    made_in (Some o) = first_made o

received_so : (outcome : Outcome) (file bytes other : Option (List ℕ)) (name : List ℕ) → file ≡ Some name → ReceivesAs outcome file bytes → first_made outcome ≡ other → other ≡ bytes
received_so outcome None bytes other name file is made = absurd cc
received_so outcome (Some n) None other name file is made = absurd is
received_so outcome (Some n) (Some b) other name file is made = sym made ∙ is

-- a processor that receives acts on no files
by_kind : (kind : Kind) (name : List ℕ) (count : ℕ) (given : Given) (outcome : Outcome) → received_name kind (Some name) ≡ name ∷ [] → MayTake (take_rule_of kind) count → given.file ≡ Some name
    → ((count ≡ 0) → IsOutcomeOf kind [] given outcome) → first_made outcome ≡ given.bytes
by_kind (GetFile filter) name count given outcome is rule file acts = made_so given.file given.bytes name outcome file (acts rule [] tt)
by_kind kind name count given outcome is rule file acts = absurd cc

module _ (flow : Flow) (store : ℕ) (k : Kept) (in_tells : Bool) (left : List NamedFile) (done : Done) (again : Job) (of : WorkIsDone flow store in_tells left done) (same : IsSame done again) (hand : MayHand flow k again)
    (none : again.given.file ≡ None → again.given.bytes ≡ None) where
  abbrev first : Job
  first = of.job

  abbrev work : IsWorkOn flow store first done
  work = of.work

  files_are : first.files ≡ again.files
  files_are = sym work.files ∙ same.files

  found : slice_get flow.processors first.processor ≡ Some hand.processor
  found = ap (slice_get flow.processors) (sym work.processor ∙ same.processor) ∙ hand.found

  at_work : IsWorkOf hand.processor.kind (taken_with_contents store first.files first.contents) first.given (done.outcome, done.sources)
  at_work = work.work hand.processor found

  taken_are : taken_with_contents store first.files first.contents ≡ taken_with_contents store again.files again.contents
  taken_are =
      sym (same_taken store first.files first.contents)
      ∙ ap (λ (sources : List Source). taken_with_contents store first.files (bytes_in sources)) (sym at_work.sources)
      ∙ (λ i. taken_with_contents store (files_are i) (same.contents i))

  but_bytes : record first.given { bytes = None } ≡ record again.given { bytes = None }
  but_bytes = sym (ap (λ (g : Given). record g { bytes = None }) work.given.but_bytes) ∙ same.given

  file_is : first.given.file ≡ again.given.file
  file_is = ap (λ (g : Given). g.file) but_bytes

  none_taken : length again.numbers ≡ 0 → taken_with_contents store first.files first.contents ≡ []
  none_taken is = taken_are ∙ ap (λ (files : List FlowFile). taken_with_contents store files again.contents) (hand.taken.are ∙ ap (live_files k) (no_numbers again.numbers is))

  bytes_are : first.given.bytes ≡ again.given.bytes
  bytes_are = by again.given.file refl
    where
      by : (o : Option (List ℕ)) → again.given.file ≡ o → first.given.bytes ≡ again.given.bytes
      by None is = subst (λ (file : Option (List ℕ)). HasBytesFrom in_tells left file first.given.bytes) (file_is ∙ is) of.received ∙ sym (none is)
      by (Some name) is =
          let receives : received_name hand.processor.kind (Some name) ≡ name ∷ [] =
          ap (received_name hand.processor.kind) (sym is) ∙ hand.file ∙ ap option_to_list is in
          let made : first_made done.outcome ≡ first.given.bytes =
          by_kind hand.processor.kind name (length again.numbers) first.given done.outcome receives hand.rule (file_is ∙ is)
          (λ count. subst (λ (taken : List Taken). IsOutcomeOf hand.processor.kind taken first.given done.outcome) (none_taken count) at_work.outcome) in
          received_so done.outcome again.given.file again.given.bytes first.given.bytes name is same.received made

  given_is : first.given ≡ again.given
  given_is = λ i. record (but_bytes i) { bytes = bytes_are i }

  -- it is the work on the job that it was compared with
  pub same_work : IsWorkOn flow store again done
  same_work = record {
    session = same.session;
    processor = same.processor;
    connection = same.connection;
    numbers = same.numbers;
    files = same.files;
    given = subst (λ (g : Given). KeepsGiven g done.given) given_is work.given;
    work = λ processor at. subst (λ (g : Given). IsWorkOf processor.kind (taken_with_contents store again.files again.contents) g (done.outcome, done.sources)) given_is
        (subst (λ (taken : List Taken). IsWorkOf processor.kind taken first.given (done.outcome, done.sources)) taken_are
        (work.work processor (ap (slice_get flow.processors) (sym work.processor ∙ same.processor) ∙ at)));
  }

-- work that is the same as that on the job of a session in flight is the work on it
pub work_on_flight : (tells in_tells out_tells : Bool) (e : EngineState) (contents : ContentRef → List ℕ) (left : List NamedFile) (standing : List ℕ → Option (List ℕ)) (flight : InFlight) (job : Job) (done : Done)
    → (done.given.file ≡ received_in flight.choice.taking → WorkIsDone e.flow (kept_by e.store).store in_tells left done) → IsJobOf tells in_tells out_tells e contents left standing flight job → IsSame done job
    → IsWorkOn e.flow (kept_by e.store).store job done
work_on_flight tells in_tells out_tells e contents left standing flight job done of own same =
    same_work e.flow (kept_by e.store).store (kept_by e.store) in_tells left done job (of (ap (λ (g : Given). g.file) same.given ∙ file_given flight.moment job.given.there flight.choice.taking job.given own.handed.given)) same own.may (none_given (kept_by e.store) flight job own.handed)
