-- An engine that may go on, and what a call leaves of it.
use Rattle.std.specs.Prelude.{◌≡◌, ℕ, Bool, true, false, List, Result, IsTrue, IsErrOf}
use Rattle.disk_trait.specs.Files.{Files}
use Rattle.flowfile_record.specs.NamedFile.{NamedFile}
use Rattle.engine_steps.specs.Engine.{AreTakeable, EngineState}
use Rattle.engine_steps.specs.Errors.{HasCause}
use Rattle.engine_steps.specs.Ready.{EngineIsReady}
use Rattle.engine_steps.specs.declared.error.EngineError.{EngineError}
use Rattle.engine_steps.specs.Flights.{names_to_come}
use Rattle.engine_steps.specs.declared.error.EngineError.TheVariants.{Disk, Put, MustReopen, NoSession}

-- It is ready, its store need not be opened anew, and the files that are to come can be taken.
pub record MayGoOn {D : Type 0} (tells : Bool) (held : D → Files) (moment : D → ℕ) (images : D → ℕ → Files → Type 0)
    (in_tells : Bool) (files : List NamedFile) (e : EngineState) (disk : D) : Type 0 where
  pub ready : EngineIsReady tells held moment images e disk
  pub works : e.failed ≡ false
  pub left : IsTrue in_tells → AreTakeable files (names_to_come e)

-- What a call leaves of an engine that could go on: unless the disk failed it is ready again, the files that are to
-- come can be taken, and it has failed just where a put did. A limit or damage is answered only where it is met.
pub record LeavesEngine {D A : Type 0} (result : Result A EngineError) (tells : Bool) (held : D → Files)
    (moment : D → ℕ) (images : D → ℕ → Files → Type 0) (in_tells : Bool) (files : List NamedFile)
    (e_old e_new : EngineState) (disk : D) : Type 0 where
  pub ready : (IsErrOf result Disk → ⊥) → EngineIsReady tells held moment images e_new disk
  pub left : IsTrue in_tells → AreTakeable files (names_to_come e_new)
  pub works : IsErrOf result MustReopen → ⊥
  pub known : IsErrOf result NoSession → ⊥
  pub failed : e_new.failed ≡ true → IsErrOf result Put
  pub from_put : IsErrOf result Put → e_new.failed ≡ true
  pub why : HasCause result e_old.flow tells held moment images e_old.most e_new.journal e_new.store disk
