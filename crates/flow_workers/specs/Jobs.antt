-- What a worker knows of its job outside of the lock.
use Rattle.std.specs.Prelude.{◌≡◌, ℕ, Bool, IsTrue, All, List}
use Rattle.flowfile_record.specs.NamedFile.{NamedFile, bytes_of}
use Rattle.machine_model.specs.declared.flow.Flow.{Flow}
use Rattle.engine_session.specs.Done.{HasBytesFrom, MayWorkOn}
use Rattle.engine_session.specs.Handing.{HaveRead, files_fit_a_content}
use Rattle.engine_session.specs.declared.job.Job.{Job}

-- each file of these names has the bytes that it had among the first ones, where the inbox tells
abbrev pub AreAsListed : (in_tells : Bool) → (files left : List NamedFile) → (names : List (List ℕ)) → Type 0
AreAsListed in_tells files left names = IsTrue in_tells → All (λ name. bytes_of left name ≡ bytes_of files name) names

-- The job's processor may be handed it. It was read: of its files, and of the file that it receives, if it receives
-- one, as that was among these.
pub record IsReadJob (flow : Flow) (store : ℕ) (in_tells : Bool) (files : List NamedFile) (job : Job) : Type 0 where
  pub may : MayWorkOn flow store job
  pub read : HaveRead (files_fit_a_content job.files) job.files job.contents
  pub received : HasBytesFrom in_tells files job.given.file job.given.bytes
