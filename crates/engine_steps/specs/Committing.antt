-- How the change of a session becomes part of a store at work.
use Rattle.std.specs.Prelude.{◌≡◌, ◌≢◌, ◌⊎◌, ℕ, Bool, false, All, List, Option, None, Some, IsSome, Result, Ok, Err, IsTrue, IfOk, OnOk, IfErr, IsErrOf}
use Rattle.disk_trait.specs.Files.{Files}
use Rattle.content_repo.specs.Claims.{content_in}
use Rattle.flowfile_wal.specs.Calls.{InEach}
use Rattle.kept_state.specs.Fits.{active_of}
use Rattle.kept_state.specs.declared.limit.Limit.{Limit as TheLimit}
use Rattle.machine_model.specs.declared.flow.Flow.{Flow}
use Rattle.machine_model.specs.Changing.{state_after}
use Rattle.machine_model.specs.State.{Machine}
use Rattle.store_core.specs.Change.{IsLimitOf}
use Rattle.run_law.specs.Going.{IsBetween, IsStepped}
use Rattle.run_law.specs.Puts.{Outgoing}
use Rattle.run_law.specs.Run.{StandsFor}
use Rattle.engine_session.specs.Change.{with_sending}
use Rattle.engine_session.specs.declared.change.Changed.{Changed}
use Rattle.engine_steps.specs.declared.error.EngineError.{EngineError}
use Rattle.engine_steps.specs.declared.error.EngineError.TheVariants.{Disk, Inbox, Put, Limit, Memory}
use Rattle.flow_queue.specs.Queue.{QueueState}
use Rattle.store_core.specs.Store.{StoreState, kept_by}
use Rattle.engine_queues.specs.Beside.{is_out, out_without}
use Rattle.engine_queues.specs.Queues.{AreQueuesOf}
use Rattle.run_law.specs.Work.{IsAtWork}
use Rattle.engine_session.specs.declared.change.Sending.{Sending}

-- a store at work for a flow, and the queues of what it keeps, whose files of these numbers are in flight
pub record IsAtWorkWithQueues {D : Type 0} (flow : Flow) (tells : Bool) (held : D → Files) (moment : D → ℕ)
    (images : D → ℕ → Files → Type 0) (s : StoreState) (out : List ℕ) (queues : List QueueState) (disk : D) : Type 0
  where
    pub work : IsAtWork flow tells held moment images s disk
    pub are : AreQueuesOf flow (kept_by s) out queues
    pub live : All (λ number. IsSome (active_of number (kept_by s).files)) out

-- which files are in flight behind a change that these files are gone by
abbrev pub out_behind : Result ℕ EngineError → (gone out : List ℕ) → List ℕ
out_behind (Ok moment) gone out = out_without gone out
out_behind (Err error) gone out = out

-- the store, but for its room
abbrev pub with_room : ℕ → StoreState → StoreState
with_room room s = record s { memory = record { kept = kept_by s; room = room } }

-- It was put, in vain: under its name may stand anything.
pub record PutIsTried (sending : Sending) (old new : Outgoing) : Type 0 where
  pub others : (other : List ℕ) → other ≢ sending.name → new.standing other ≡ old.standing other
  pub puts : new.puts ≡ (with_sending (Some sending) old).puts

-- what the outbox has where it failed as this was put: all is as it was, or it was tried
abbrev pub IsLeftBySend : Option Sending → (old new : Outgoing) → Type 0
IsLeftBySend None old new = ⊥
IsLeftBySend (Some sending) old new = (new ≡ old) ⊎ PutIsTried sending old new

-- What the outbox has where a session that sends this was committed: it was put where the session is acknowledged, or
-- the disk failed behind the put; it was tried where the put failed; and else nothing was.
abbrev pub IsOutboxLeft : Result ℕ EngineError → Option Sending → (old new : Outgoing) → Type 0
IsOutboxLeft (Ok moment) sending old new = new ≡ with_sending sending old
IsOutboxLeft (Err Disk) sending old new = new ≡ with_sending sending old
IsOutboxLeft (Err Inbox) sending old new = new ≡ with_sending sending old
IsOutboxLeft (Err Put) sending old new = IsLeftBySend sending old new
IsOutboxLeft (Err _) sending old new = new ≡ old

-- What is left where a change was sent and committed, and why it wasn't. Any error but the disk's comes before the commit,
-- and any but these two devices' before the put.
pub record HasWritten {D : Type 0} (result : Result ℕ EngineError) (tells : Bool) (held : D → Files) (moment : D → ℕ)
    (images : D → ℕ → Files → Type 0) (out_tells : Bool) (s t : StoreState) (queues now_queues : List QueueState)
    (changed : Changed) (out now_out : Outgoing) (old new : D) : Type 0 where
  pub stepped : OnOk result ((flow : Flow) (before after : Machine) → IsAtWork flow tells held moment images s old
      → InEach (images old (moment old)) (StandsFor flow s.lot before)
      → state_after (content_in (held old)) before.state changed.settled ≡ after.state
      → IsStepped flow moment images s.lot before after old new)
  pub cut_off : IsErrOf result Disk → (flow : Flow) (before after : Machine)
      → IsAtWork flow tells held moment images s old
      → InEach (images old (moment old)) (StandsFor flow s.lot before)
      → state_after (content_in (held old)) before.state changed.settled ≡ after.state
      → IsBetween flow moment images s.lot before after old new
  pub moment_is : IfOk result (λ answer. answer ≡ moment new)
  pub sent : OnOk result (IsTrue out_tells → now_out ≡ with_sending changed.sending out)
  pub sent_before : IsErrOf result Disk → IsTrue out_tells → now_out ≡ with_sending changed.sending out
  pub unwritten : (error : EngineError) → IsErrOf result error → (error ≡ Disk → ⊥)
      → (new ≡ old) × (t ≡ with_room t.memory.room s)
  pub unsent : (error : EngineError) → IsErrOf result error → (error ≡ Disk → ⊥) → (error ≡ Put → ⊥)
      → now_out ≡ out
  pub put : IsErrOf result Put → IsTrue out_tells → IsLeftBySend changed.sending out now_out
  pub passes : (limit : TheLimit) → IsErrOf result (Limit limit) → IsLimitOf s changed.settled limit
  pub kinds : IfErr result (λ error. (error ≡ Disk) ⊎ (error ≡ Memory) ⊎ (error ≡ Put)
      ⊎ ((limit : TheLimit) × (error ≡ Limit limit)))
  pub work : (IsErrOf result Disk → ⊥) → (flow : Flow) (taken : List ℕ)
      → IsAtWorkWithQueues flow tells held moment images s taken queues old
      → IsAtWorkWithQueues flow tells held moment images t (out_behind result changed.settled.gone taken) now_queues new
  pub stay : (IsErrOf result Disk → ⊥) → (number : ℕ) → is_out changed.settled.gone number ≡ false
      → IsSome (active_of number (kept_by s).files)
      → active_of number (kept_by t).files ≡ active_of number (kept_by s).files
  pub lot : (t.lot ≡ s.lot) × (t.log.number ≡ s.log.number)
  pub id : (kept_by t).store ≡ (kept_by s).store
