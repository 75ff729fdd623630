-- What a worker knows of its job, and that its work is the work for the engine.
use Rattle.std.proofs.Common.{◌≡◌, ℕ, Bool, List, refl, sym, ap, subst, ◌∙◌}
use Rattle.std.specs.Prelude.{Option, Result, Ok, Err, IfOk, IsTrue}
use Rattle.flowfile_record.specs.NamedFile.{NamedFile, bytes_of}
use Rattle.flowfile_record.specs.declared.content.ContentRef.{ContentRef}
use Rattle.machine_model.specs.declared.given.Given.{Given}
use Rattle.store_core.specs.Store.{kept_by}
use Rattle.engine_choice.specs.declared.choice.Taking.{Taking}
use Rattle.engine_choice.specs.declared.choice.Taking.TheVariants.{Files, Generate, Receive}
use Rattle.engine_session.specs.Done.{HasBytesFrom, IsWorkOn, MayWorkOn, WorkIsDone}
use Rattle.engine_session.specs.declared.done.Done.{Done}
use Rattle.engine_session.specs.declared.job.Job.{Job}
use Rattle.engine_steps.specs.Commit.{IsWorkFor}
use Rattle.engine_steps.specs.Engine.{EngineState}
use Rattle.engine_steps.specs.Flights.{names_to_come, received_in}
use Rattle.engine_steps.specs.Handing.{HasBytes, HasBytesOf}
use Rattle.engine_steps.specs.OwnJob.{IsJobOf}
use Rattle.engine_steps.specs.Ready.{IsReadyInMemory}
use Rattle.engine_steps.specs.declared.error.EngineError.{EngineError}
use Rattle.engine_steps.specs.declared.flight.InFlight.{InFlight}
use Rattle.engine_steps.proofs.Flights.{the_flight}
use Rattle.engine_steps.proofs.StandsStill.{file_given}
use Rattle.flow_workers.specs.Jobs.{AreAsListed, IsReadJob}
use Rattle.flow_workers.proofs.Listed.{listed_bytes}

abbrev AreSameBytes : (in_tells : Bool) → (files left : List NamedFile) → Taking → Type 0
AreSameBytes in_tells files left taking = (name : List ℕ) → taking ≡ Receive name → IsTrue in_tells → bytes_of left name ≡ bytes_of files name

-- ---- a job that was read

-- bytes that a job was given are those of the first files
given_as : (in_tells : Bool) (files left : List NamedFile) (taking : Taking) (file bytes : Option (List ℕ)) → file ≡ received_in taking → HasBytes taking bytes → (IsTrue in_tells → HasBytesOf left taking bytes) → AreSameBytes in_tells files left taking
    → HasBytesFrom in_tells files file bytes
given_as in_tells files left (Files connection numbers) file bytes is has of same = subst (λ (f : Option (List ℕ)). HasBytesFrom in_tells files f bytes) (sym is) has
given_as in_tells files left (Generate index) file bytes is has of same = subst (λ (f : Option (List ℕ)). HasBytesFrom in_tells files f bytes) (sym is) has
given_as in_tells files left (Receive name) file bytes is has of same =
    subst (λ (f : Option (List ℕ)). HasBytesFrom in_tells files f bytes) (sym is) (has, λ telling. sym (same name refl telling) ∙ of telling)

pub job_is_read : (tells in_tells out_tells : Bool) (e : EngineState) (contents : ContentRef → List ℕ) (files left : List NamedFile) (standing : List ℕ → Option (List ℕ)) (flight : InFlight) (job : Job) → IsReadyInMemory e
    → IsJobOf tells in_tells out_tells e contents left standing flight job → MayWorkOn e.flow (kept_by e.store).store job → AreAsListed in_tells files left (names_to_come e)
    → IsReadJob e.flow (kept_by e.store).store in_tells files job
job_is_read tells in_tells out_tells e contents files left standing flight job ready own may listed = record {
  may = may;
  read = (own.handed.bytes, own.handed.taken.read);
  received = given_as in_tells files left flight.choice.taking job.given.file job.given.bytes (file_given flight.moment job.given.there flight.choice.taking job.given own.handed.given) own.handed.has own.told.received
      (listed_bytes in_tells files left e ready flight.session flight (the_flight e.out flight own.flying ready.flights.apart) listed);
}

-- .. where it was answered
pub jobs_are_read : (result : Result Job EngineError) (tells in_tells out_tells : Bool) (e : EngineState) (contents : ContentRef → List ℕ) (left : List NamedFile) (standing : List ℕ → Option (List ℕ)) (session : ℕ) → IsReadyInMemory e
    → IfOk result (λ job. (flight : InFlight) × (flight.session ≡ session) × IsJobOf tells in_tells out_tells e contents left standing flight job × MayWorkOn e.flow (kept_by e.store).store job)
    → IfOk result (λ job. (files : List NamedFile) → AreAsListed in_tells files left (names_to_come e) → IsReadJob e.flow (kept_by e.store).store in_tells files job)
jobs_are_read (Ok job) tells in_tells out_tells e contents left standing session ready own = λ files listed. job_is_read tells in_tells out_tells e contents files left standing own.0 job ready own.2 own.3 listed
jobs_are_read (Err error) tells in_tells out_tells e contents left standing session ready own = tt

-- ---- work on it

-- the work on a job that was read
pub work_on_read : (flow : _) (store : ℕ) (in_tells : Bool) (files : List NamedFile) (job : Job) (done : Done) → IsReadJob flow store in_tells files job → IsWorkOn flow store job done → WorkIsDone flow store in_tells files done
work_on_read flow store in_tells files job done was work = record { job = job; read = was.read; received = was.received; work = work }

-- .. of a session in flight, as the inbox is by now
given_still : (in_tells : Bool) (files left : List NamedFile) (taking : Taking) (file bytes : Option (List ℕ)) → file ≡ received_in taking → HasBytesFrom in_tells files file bytes → AreSameBytes in_tells files left taking → HasBytesFrom in_tells left file bytes
given_still in_tells files left (Files connection numbers) file bytes is has same =
    subst (λ (f : Option (List ℕ)). HasBytesFrom in_tells left f bytes) (sym is) (subst (λ (f : Option (List ℕ)). HasBytesFrom in_tells files f bytes) is has)
given_still in_tells files left (Generate index) file bytes is has same =
    subst (λ (f : Option (List ℕ)). HasBytesFrom in_tells left f bytes) (sym is) (subst (λ (f : Option (List ℕ)). HasBytesFrom in_tells files f bytes) is has)
given_still in_tells files left (Receive name) file bytes is has same =
    let was = subst (λ (f : Option (List ℕ)). HasBytesFrom in_tells files f bytes) is has in
    subst (λ (f : Option (List ℕ)). HasBytesFrom in_tells left f bytes) (sym is) (was.0, λ telling. same name refl telling ∙ was.1 telling)

pub is_work_for : (in_tells : Bool) (e : EngineState) (files left : List NamedFile) (done : Done) → IsReadyInMemory e → AreAsListed in_tells files left (names_to_come e) → WorkIsDone e.flow (kept_by e.store).store in_tells files done
    → IsWorkFor in_tells e left done
is_work_for in_tells e files left done ready listed of flight found is = record {
  job = of.job;
  read = of.read;
  received = given_still in_tells files left flight.choice.taking of.job.given.file of.job.given.bytes (sym (ap (λ (g : Given). g.file) of.work.given.but_bytes) ∙ is) of.received (listed_bytes in_tells files left e ready done.session flight found listed);
  work = of.work;
}
