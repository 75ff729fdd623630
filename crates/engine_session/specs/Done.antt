-- The work on a job.
use Rattle.std.specs.Prelude.{◌≡◌, ⊤, ℕ, ◌≤◌, Bool, IsTrue, List, Option, None, Some, length, map, slice_get}
use Rattle.std.specs.Option.{IsSomeAnd, option_and_then}
use Rattle.flowfile_record.specs.NamedFile.{NamedFile, bytes_of}
use Rattle.flowfile_record.specs.Outcome.{written_in}
use Rattle.flowfile_record.specs.declared.TheConstants.{CONTENT_MAX}
use Rattle.flowfile_record.specs.declared.worked.Outcome.{Outcome}
use Rattle.machine_model.specs.declared.flow.Flow.{Flow}
use Rattle.machine_model.specs.declared.given.Given.{Given}
use Rattle.machine_model.specs.declared.journal.Step.{Step}
use Rattle.machine_model.specs.declared.journal.Step.TheVariants.{Session}
use Rattle.processor_api.specs.Acts.{KeepsGiven}
use Rattle.engine_session.specs.Handing.{HaveRead, files_fit_a_content, taken_with_contents}
use Rattle.engine_session.specs.Working.{IsWorkAt, MayWork}
use Rattle.engine_session.specs.declared.done.Done.{Done}
use Rattle.engine_session.specs.declared.job.Job.{Job}

-- the job's processor may be handed it, by a store of this id; bytes it is given for a file that it receives alone
abbrev pub MayWorkOn : Flow → (store : ℕ) → Job → Type 0
MayWorkOn flow store job = MayWork flow job.processor (taken_with_contents store job.files job.contents) job.given

-- It is what the job's processor makes of it, by the definition, and what stays of what it was handed.
pub record IsWorkOn (flow : Flow) (store : ℕ) (job : Job) (done : Done) : Type 0 where
  pub session : done.session ≡ job.session
  pub processor : done.processor ≡ job.processor
  pub connection : done.connection ≡ job.connection
  pub numbers : done.numbers ≡ job.numbers
  pub files : done.files ≡ job.files
  pub given : KeepsGiven job.given done.given
  pub work : IsWorkAt flow job.processor (taken_with_contents store job.files job.contents) job.given
      (done.outcome, done.sources)

-- A file that was received has bytes, no more than a content may have, and those of the inbox's file where the inbox
-- tells. Without such a file there are none.
abbrev pub HasBytesFrom : (in_tells : Bool) → List NamedFile → (file bytes : Option (List ℕ)) → Type 0
HasBytesFrom in_tells left None bytes = bytes ≡ None
HasBytesFrom in_tells left (Some name) bytes =
    IsSomeAnd bytes (λ bytes. length bytes ≤ CONTENT_MAX) × (IsTrue in_tells → bytes_of left name ≡ bytes)

-- It is the work on some job, as that was read: of its files, and of the file that it received, which is left.
pub record WorkIsDone (flow : Flow) (store : ℕ) (in_tells : Bool) (left : List NamedFile) (done : Done) : Type 0 where
  pub job : Job
  pub read : HaveRead (files_fit_a_content job.files) job.files job.contents
  pub received : HasBytesFrom in_tells left job.given.file job.given.bytes
  pub work : IsWorkOn flow store job done

-- ---- what shows of it

-- the same is given, but for the bytes
abbrev pub IsGivenAs : (given other : Given) → Type 0
IsGivenAs given other = record given { bytes = None } ≡ record other { bytes = None }

-- the bytes of the first file, where the session wrote them
abbrev pub first_made : Outcome → Option (List ℕ)
first_made outcome = option_and_then (λ file. written_in file.body) (slice_get outcome.files 0)

-- where a file is received, its bytes are those of the first file
abbrev pub ReceivesAs : Outcome → Option (List ℕ) → Option (List ℕ) → Type 0
ReceivesAs outcome None bytes = ⊤
ReceivesAs outcome (Some name) None = ⊥
ReceivesAs outcome (Some name) (Some bytes) = first_made outcome ≡ Some bytes

abbrev pub IsReceivedAs : Outcome → Given → Type 0
IsReceivedAs outcome given = ReceivesAs outcome given.file given.bytes

-- The job's processor worked on the job's files, which stood as they stand in it, with the job's contents, and was given
-- what the job gives.
pub record IsSame (done : Done) (job : Job) : Type 0 where
  pub session : done.session ≡ job.session
  pub processor : done.processor ≡ job.processor
  pub connection : done.connection ≡ job.connection
  pub numbers : done.numbers ≡ job.numbers
  pub files : done.files ≡ job.files
  pub contents : map (λ source. source.bytes) done.sources ≡ job.contents
  pub given : IsGivenAs done.given job.given
  pub received : IsReceivedAs done.outcome job.given

-- ---- its entry in a journal

-- the step of the machine that it is
abbrev pub step_done : Done → Step
step_done done = Session done.processor done.numbers done.given.moment (record done.given { bytes = None })
