-- What a session was handed is what it would be handed again, where it stands as it stood.
use Rattle.std.proofs.Common.{◌≡◌, ℕ, Bool, true, List, [], ◌∷◌, length, map, refl, sym, ap, subst, ◌∙◌}
use Rattle.std.specs.Prelude.{All, Contains, IsTrue, IfSome, Option, None, Some, find}
use Rattle.std.proofs.lemmas.List.Elements.{All-nil}
use Rattle.sha2.specs.Sha256.{sha256}
use Rattle.flowfile_record.specs.NamedFile.{NamedFile}
use Rattle.flowfile_record.specs.Stored.{Kept}
use Rattle.flowfile_record.specs.declared.content.ContentRef.{ContentRef}
use Rattle.flowfile_record.specs.declared.flow_file.FlowFile.{FlowFile}
use Rattle.kept_state.specs.Fits.{are_active_in, are_distinct_numbers}
use Rattle.machine_model.specs.Changing.{queued_file}
use Rattle.machine_model.specs.declared.given.Given.{Given}
use Rattle.process_session.specs.Bench.{taken_source}
use Rattle.process_session.specs.declared.file.Source.{Source}
use Rattle.store_core.specs.State.{live_contents}
use Rattle.store_core.specs.Store.{kept_by}
use Rattle.engine_choice.specs.Laws.{given_for, numbers_in}
use Rattle.engine_choice.specs.declared.choice.Taking.{Taking}
use Rattle.engine_choice.specs.declared.choice.Taking.TheVariants.{Files, Generate, Receive}
use Rattle.engine_session.specs.Done.{HasBytesFrom, IsWorkOn, WorkIsDone}
use Rattle.engine_session.specs.Handing.{AreReadOf, AreTaken, IsReadContent, files_fit_a_content, live_files, taken_with_contents}
use Rattle.engine_session.specs.Job.{MayHand}
use Rattle.engine_session.specs.declared.done.Done.{Done}
use Rattle.engine_session.specs.declared.job.Job.{Job}
use Rattle.engine_steps.specs.Commit.{IndexIsNext, StandsSo}
use Rattle.engine_steps.specs.Engine.{EngineState}
use Rattle.engine_steps.specs.Flights.{has_session, received_in}
use Rattle.engine_steps.specs.Handing.{HasBytes, HasBytesOf, JobIsHanded, IsHandedAs, MayBeTaken, connection_in, there_for}
use Rattle.engine_steps.specs.OwnJob.{IsJobOf}
use Rattle.engine_steps.specs.Ready.{IsReadyInMemory}
use Rattle.engine_steps.specs.Standing.{HandedStands}
use Rattle.engine_steps.specs.declared.flight.InFlight.{InFlight}
use Rattle.engine_steps.proofs.Files.{all_are_live}
use Rattle.engine_steps.proofs.Flights.{found_flies}
use Rattle.engine_steps.proofs.OwnJob.{flight_may_hand, flight_takes}

-- ---- what is taken

pub may_take : (k : Kept) (taking : Taking) → MayBeTaken k taking
    → (are_active_in k.files (connection_in taking) (numbers_in taking) ≡ true) × (are_distinct_numbers (numbers_in taking) ≡ true)
may_take k (Files connection numbers) may = may
may_take k (Generate index) may = (refl, refl)
may_take k (Receive name) may = (refl, refl)

-- the contents of the files that it takes are live
pub takes_live : (k : Kept) (taking : Taking) → MayBeTaken k taking → All (λ (file : FlowFile). Contains (live_contents k) file.content) (live_files k (numbers_in taking))
takes_live k (Files connection numbers) may = all_are_live k connection numbers may
takes_live k (Generate index) may = All-nil (λ (file : FlowFile). Contains (live_contents k) file.content)
takes_live k (Receive name) may = All-nil (λ (file : FlowFile). Contains (live_contents k) file.content)

-- ---- contents

-- what was read of contents once is what stands there, where these are the bytes that stand
pub stands_as_read : (bytes contents : ContentRef → List ℕ) (fits : Bool) (files : List FlowFile) (reads : List (Option (List ℕ))) → AreReadOf bytes fits files reads
    → reads ≡ map (λ (file : FlowFile). Some (contents file.content)) files → AreReadOf contents fits files reads
stands_as_read bytes contents fits [] [] are same = tt
stands_as_read bytes contents fits [] (read ∷ reads) are same = absurd are
stands_as_read bytes contents fits (file ∷ files) [] are same = absurd are
stands_as_read bytes contents fits (file ∷ files) (read ∷ reads) are same =
    let head : read ≡ Some (contents file.content) = cc same in
    let tail : reads ≡ map (λ (one : FlowFile). Some (contents one.content)) files = cc same in
    let as_was : contents file.content ≡ bytes file.content = subst (λ (o : Option (List ℕ)). IfSome o (λ r. r ≡ bytes file.content)) head are.0.is in
    let now : IsReadContent contents fits file read = record {
      size = are.0.size ∙ ap length (sym as_was);
      digest = are.0.digest ∙ ap sha256 (sym as_was);
      filled = are.0.filled;
      is = subst (λ (o : Option (List ℕ)). IfSome o (λ r. r ≡ contents file.content)) (sym head) refl;
    } in
    (now, stands_as_read bytes contents fits files reads are.1 tail)

-- what stays of the files that were taken has their contents
pub sources_have : (store : ℕ) (bytes : ContentRef → List ℕ) (fits : Bool) (files : List FlowFile) (reads : List (Option (List ℕ))) → AreReadOf bytes fits files reads
    → map (λ (source : Source). source.bytes) (map taken_source (taken_with_contents store files reads)) ≡ reads
sources_have store bytes fits [] [] are = refl
sources_have store bytes fits [] (read ∷ reads) are = absurd are
sources_have store bytes fits (file ∷ files) [] are = absurd are
sources_have store bytes fits (file ∷ files) (read ∷ reads) are = ap (λ (rest : List (Option (List ℕ))). read ∷ rest) (sources_have store bytes fits files reads are.1)

-- ---- what is given

pub file_given : (moment : ℕ) (there : Bool) (taking : Taking) (given : Given) → record given { bytes = None } ≡ given_for moment there taking → given.file ≡ received_in taking
file_given moment there (Files connection numbers) given is = ap (λ (g : Given). g.file) is
file_given moment there (Generate index) given is = ap (λ (g : Given). g.file) is
file_given moment there (Receive name) given is = ap (λ (g : Given). g.file) is

module _ (in_tells : Bool) (left : List NamedFile) (file bytes : Option (List ℕ)) (from : HasBytesFrom in_tells left file bytes) where
  pub has_bytes : (taking : Taking) → file ≡ received_in taking → HasBytes taking bytes
  has_bytes (Files connection numbers) is = subst (λ (f : Option (List ℕ)). HasBytesFrom in_tells left f bytes) is from
  has_bytes (Generate index) is = subst (λ (f : Option (List ℕ)). HasBytesFrom in_tells left f bytes) is from
  has_bytes (Receive name) is = (subst (λ (f : Option (List ℕ)). HasBytesFrom in_tells left f bytes) is from).0

  pub has_bytes_of : IsTrue in_tells → (taking : Taking) → file ≡ received_in taking → HasBytesOf left taking bytes
  has_bytes_of telling (Files connection numbers) is = tt
  has_bytes_of telling (Generate index) is = tt
  has_bytes_of telling (Receive name) is = (subst (λ (f : Option (List ℕ)). HasBytesFrom in_tells left f bytes) is from).1 telling

pub bytes_from : (in_tells : Bool) (left : List NamedFile) (taking : Taking) (file bytes : Option (List ℕ)) → file ≡ received_in taking → HasBytes taking bytes → (IsTrue in_tells → HasBytesOf left taking bytes)
    → HasBytesFrom in_tells left file bytes
bytes_from in_tells left (Files connection numbers) file bytes is has of = subst (λ (f : Option (List ℕ)). HasBytesFrom in_tells left f bytes) (sym is) has
bytes_from in_tells left (Generate index) file bytes is has of = subst (λ (f : Option (List ℕ)). HasBytesFrom in_tells left f bytes) (sym is) has
bytes_from in_tells left (Receive name) file bytes is has of = subst (λ (f : Option (List ℕ)). HasBytesFrom in_tells left f bytes) (sym is) (has, of)

-- the work on a job is done on what was read
pub work_is_done : (tells in_tells out_tells : Bool) (e : EngineState) (contents : ContentRef → List ℕ) (left : List NamedFile) (standing : List ℕ → Option (List ℕ)) (flight : InFlight) (job : Job) (done : Done)
    → IsJobOf tells in_tells out_tells e contents left standing flight job → IsWorkOn e.flow (kept_by e.store).store job done → WorkIsDone e.flow (kept_by e.store).store in_tells left done
work_is_done tells in_tells out_tells e contents left standing flight job done own work = record {
  job = job;
  read = (own.handed.bytes, own.handed.taken.read);
  received = bytes_from in_tells left flight.choice.taking job.given.file job.given.bytes (file_given flight.moment job.given.there flight.choice.taking job.given own.handed.given) own.handed.has own.told.received;
  work = work;
}

-- ---- the job

module _ (tells in_tells out_tells : Bool) (e : EngineState) (contents : ContentRef → List ℕ) (left : List NamedFile) (standing : List ℕ → Option (List ℕ)) (flight : InFlight) (done : Done)
    (of : WorkIsDone e.flow (kept_by e.store).store in_tells left done) (flying : Contains e.out flight) (next : IndexIsNext e flight)
    (stands : HandedStands tells out_tells e.flow (kept_by e.store) contents standing flight done) (may : MayBeTaken (kept_by e.store) flight.choice.taking)
    (hand : (job : Job) → JobIsHanded (kept_by e.store) flight job → MayHand e.flow (kept_by e.store) job) where
  abbrev k : Kept
  k = kept_by e.store

  abbrev taking : Taking
  taking = flight.choice.taking

  abbrev job : Job
  job = of.job

  abbrev work : IsWorkOn e.flow k.store job done
  work = of.work

  but_bytes : record job.given { bytes = None } ≡ record done.given { bytes = None }
  but_bytes = sym (ap (λ (g : Given). record g { bytes = None }) work.given.but_bytes)

  there_is : job.given.there ≡ done.given.there
  there_is = ap (λ (g : Given). g.there) but_bytes

  given_is : record job.given { bytes = None } ≡ given_for flight.moment job.given.there taking
  given_is = but_bytes ∙ stands.of.given ∙ ap (λ (there : Bool). given_for flight.moment there taking) (sym there_is)

  file_is : job.given.file ≡ received_in taking
  file_is = file_given flight.moment job.given.there taking job.given given_is

  connection_is : job.connection ≡ connection_in taking
  connection_is = sym work.connection ∙ stands.of.connection

  numbers_are : job.numbers ≡ numbers_in taking
  numbers_are = sym work.numbers ∙ stands.of.numbers

  taken_so : (bytes : ContentRef → List ℕ) → AreReadOf bytes (files_fit_a_content job.files) job.files job.contents → AreTaken k job.connection job.numbers bytes job.files job.contents
  taken_so bytes read = record {
    active = (λ i. are_active_in k.files (connection_is i) (numbers_are i)) ∙ (may_take k taking may).0;
    distinct = ap are_distinct_numbers numbers_are ∙ (may_take k taking may).1;
    are = sym work.files ∙ stands.files ∙ ap (live_files k) work.numbers;
    read = read;
  }

  handed : JobIsHanded k flight job
  handed = record {
    session = sym work.session ∙ stands.of.session;
    processor = sym work.processor ∙ stands.of.processor;
    connection = connection_is;
    numbers = numbers_are;
    given = given_is;
    has = has_bytes in_tells left job.given.file job.given.bytes of.received taking file_is;
    bytes = of.read.0;
    taken = taken_so of.read.0 of.read.1;
  }

  abbrev by : MayHand e.flow k job
  by = hand job handed

  contents_are : IsTrue tells → job.contents ≡ map (λ (file : FlowFile). Some (contents file.content)) job.files
  contents_are telling =
      sym (sources_have k.store of.read.0 (files_fit_a_content job.files) job.files job.contents of.read.1)
      ∙ ap (λ (sources : List Source). map (λ (source : Source). source.bytes) sources) (sym (work.work by.processor by.found).sources)
      ∙ stands.bytes telling
      ∙ ap (λ (files : List FlowFile). map (λ (file : FlowFile). Some (contents file.content)) files) work.files

  told : IsHandedAs tells in_tells out_tells e.flow k contents left standing flight.choice job
  told = record {
    read = λ telling. taken_so contents (stands_as_read of.read.0 contents (files_fit_a_content job.files) job.files job.contents of.read.1 (contents_are telling));
    received = λ telling. has_bytes_of in_tells left job.given.file job.given.bytes of.received telling taking file_is;
    there = λ telling world same.
        there_is ∙ stands.there telling world same ∙ ap (λ (files : List FlowFile). there_for e.flow flight.choice.processor world (map (queued_file contents) files)) work.files;
    unasked = λ unasked. there_is ∙ stands.unasked unasked;
  }

  own : IsJobOf tells in_tells out_tells e contents left standing flight job
  own = record { flying = flying; handed = handed; told = told; may = by }

  -- the session's job is the one that was worked on
  stands_so : StandsSo tells in_tells out_tells e contents left standing done
  stands_so = (flight, job, next, own, work)

-- .. of a session in flight of an engine that is ready
pub flight_stands_so : (tells in_tells out_tells : Bool) (e : EngineState) (contents : ContentRef → List ℕ) (left : List NamedFile) (standing : List ℕ → Option (List ℕ)) (session : ℕ) (flight : InFlight) (done : Done)
    → IsReadyInMemory e → find (has_session session) e.out ≡ Some flight → IndexIsNext e flight → (done.given.file ≡ received_in flight.choice.taking → WorkIsDone e.flow (kept_by e.store).store in_tells left done)
    → HandedStands tells out_tells e.flow (kept_by e.store) contents standing flight done → StandsSo tells in_tells out_tells e contents left standing done
flight_stands_so tells in_tells out_tells e contents left standing session flight done ready is next of stands =
    stands_so tells in_tells out_tells e contents left standing flight done (of (file_given flight.moment done.given.there flight.choice.taking done.given stands.of.given)) (found_flies session e.out flight is).0 next stands
    (flight_takes e ready session flight is) (flight_may_hand e ready session flight is)
