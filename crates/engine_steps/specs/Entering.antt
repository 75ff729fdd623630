-- What becomes of the work on a job, call by call: the job is read again, its change written, its session entered.
use Rattle.std.specs.Prelude.{◌≡◌, ◌⊎◌, ◌↔◌, ℕ, Bool, true, false, List, None, Some, Result, IsTrue, IsErrOf}
use Rattle.disk_trait.specs.Files.{Files}
use Rattle.disk_trait.specs.Images.{Stays}
use Rattle.disk_trait.specs.declared.damage.Damage.{Damage}
use Rattle.flowfile_record.specs.NamedFile.{NamedFile}
use Rattle.content_repo.specs.Claims.{content_in}
use Rattle.kept_state.specs.Fits.{are_active_in}
use Rattle.kept_state.specs.declared.limit.Limit.{Limit as TheLimit}
use Rattle.machine_model.specs.Changing.{HaveDigests}
use Rattle.machine_model.specs.State.{Machine}
use Rattle.machine_model.specs.declared.journal.Step.{Step}
use Rattle.store_core.specs.Change.{HasLiveContents, MayChange}
use Rattle.store_core.specs.Store.{StoreState, kept_by}
use Rattle.run_law.specs.Puts.{Outgoing, Start}
use Rattle.run_law.specs.Work.{DoesNotTell}
use Rattle.engine_session.specs.Sending.{sending_of}
use Rattle.engine_session.specs.declared.change.Changed.{Changed}
use Rattle.engine_session.specs.declared.done.Done.{Done}
use Rattle.engine_steps.specs.Commit.{DevicesFollow, IsEntered, IsInboxLeft}
use Rattle.engine_steps.specs.Committing.{IsOutboxLeft}
use Rattle.engine_steps.specs.Engine.{EngineState}
use Rattle.engine_steps.specs.Errors.{IsReadBy}
use Rattle.engine_steps.specs.Journal.{journaled}
use Rattle.engine_steps.specs.Running.{IsRunning, Stops, undone_step}
use Rattle.engine_steps.specs.declared.error.EngineError.{EngineError}
use Rattle.engine_steps.specs.declared.error.EngineError.TheVariants.{Damaged, Disk, Inbox, Put, Limit, MustReopen, NoSession, Memory}

-- ---- the job is read again

-- Engine and devices are as they were, but that the store has failed where the disk did.
pub record IsReread {D A : Type 0} (result : Result A EngineError) (held : D → Files) (moment : D → ℕ)
    (images : D → ℕ → Files → Type 0) (e_old e_new : EngineState) (old new : D) (left now_left : List NamedFile)
    (out now_out : Outgoing) : Type 0 where
  pub store : IsReadBy result e_old.store e_new.store
  pub rest : e_new ≡ record e_old { store = e_new.store }
  pub disk : Stays held moment images old new
  pub inbox : now_left ≡ left
  pub outbox : now_out ≡ out

-- It meets no limit, a store that works is asked of a session in flight, nothing is put, and damage is answered only on
-- a disk that doesn't tell.
pub record FailsToReread {A : Type 0} (result : Result A EngineError) (tells : Bool) : Type 0 where
  pub unlimited : (limit : TheLimit) → IsErrOf result (Limit limit) → ⊥
  pub works : IsErrOf result MustReopen → ⊥
  pub known : IsErrOf result NoSession → ⊥
  pub unput : IsErrOf result Put → ⊥
  pub damaged : (damage : Damage) → IsErrOf result (Damaged damage) → DoesNotTell tells

-- ---- the change is written

-- The store may be changed so: new contents have the digests that their files say, the others are those of live files,
-- and the files that go are active ones of this connection.
pub record MayCommitChange {D : Type 0} (tells : Bool) (held : D → Files) (s : StoreState) (connection : ℕ)
    (changed : Changed) (disk : D) : Type 0 where
  pub may : MayChange (kept_by s) changed.settled
  pub live : HasLiveContents s changed.settled
  pub digests : IsTrue tells → HaveDigests (content_in (held disk)) changed.settled.placed
  pub gone : are_active_in (kept_by s).files connection changed.settled.gone ≡ true

-- What an engine notes of a step that was written with this result: its entry in the journal, that the store must be
-- opened anew where a put failed, and that it knows no moment at which nothing is due. Only store and queues change
-- besides.
pub record NotesStep (result : Result ℕ EngineError) (one : Step) (old new : EngineState) : Type 0 where
  pub journal : new.journal ≡ journaled result one old.journal
  pub rest : new ≡ record old {
    store = new.store;
    queues = new.queues;
    journal = new.journal;
    failed = new.failed;
    tended = new.tended;
  }
  pub failed : (new.failed ≡ true) ↔ ((old.failed ≡ true) ⊎ IsErrOf result Put)
  pub tended : (new.tended ≡ None) ⊎ (IsErrOf result Memory × (new ≡ old))

-- ---- the session is entered

-- Acknowledged, the journal has one entry more, the session of this work, its file has left the inbox, and what it
-- sends was put. Else all three are as they were, but at a failure of a device.
pub record EntersSession (result : Result ℕ EngineError) (done : Done) (now : ℕ) (in_tells out_tells : Bool)
    (old new : EngineState) (left now_left : List NamedFile) (out now_out : Outgoing) : Type 0 where
  pub journal : IsEntered result done now old new
  pub inbox : IsTrue in_tells → IsInboxLeft result done.given.file left now_left
  pub outbox : IsTrue out_tells → IsOutboxLeft result (sending_of done.outcome.sent done.sources) out now_out
  pub follow : DevicesFollow result in_tells out_tells (sending_of done.outcome.sent done.sources) old.journal new.journal
      left now_left out now_out

-- What a run becomes by a session that is this step, made within the run: it goes on, unless disk or put failed, or the file
-- that was received couldn't be removed; and any error may stop it.
pub record EntersRun {D A : Type 0} (result : Result A EngineError) (tells : Bool) (held : D → Files)
    (moment : D → ℕ) (images : D → ℕ → Files → Type 0) (one : Step) (within : (since until : ℕ) → Type 0)
    (e_old e_new : EngineState) (old new : D) (left now_left : List NamedFile) (out now_out : Outgoing) : Type 0 where
  pub goes_on : (IsErrOf result Disk → ⊥) → e_new.failed ≡ false
      → (IsErrOf result Inbox → e_new.journal ≡ e_old.journal) → (opened : Machine) (first : D) (start : Start)
      (time : ℕ) → within start.time time
      → IsRunning moment images e_old opened first start time old left out
      → IsRunning moment images e_new opened first start time new now_left now_out
  pub stopped : (error : EngineError) → IsErrOf result error → (opened : Machine) (first : D) (start : Start)
      (time : ℕ) → within start.time time
      → IsRunning moment images e_old opened first start time old left out
      → Stops error tells held moment images e_new opened first start time new now_left now_out
      (undone_step error (Some one))
