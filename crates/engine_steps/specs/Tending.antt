-- Files of a connection expire by a step of the machine, and a new log begins where that is due.
use Rattle.std.specs.Prelude.{◌≡◌, ◌⊎◌, ℕ, ◌+◌, ◌-◌, ◌^◌, min, List, [], ◌∷◌, ◌++◌, Option, Some, None, Result, Ok, Err, IfOk, OnOk, IsErrOf}
use Rattle.disk_trait.specs.Files.{Files}
use Rattle.flowfile_record.specs.declared.change.Settled.{Settled}
use Rattle.flowfile_record.specs.declared.content.ContentRef.{ContentRef}
use Rattle.flowfile_record.specs.Stored.{Kept}
use Rattle.kept_state.specs.Applied.{left_after}
use Rattle.kept_state.specs.declared.limit.Limit.{Limit as TheLimit}
use Rattle.machine_model.specs.declared.flow.Flow.{Flow}
use Rattle.machine_model.specs.declared.journal.Step.{Step}
use Rattle.machine_model.specs.declared.journal.Step.TheVariants.{Expire}
use Rattle.machine_model.specs.Changing.{state_after}
use Rattle.machine_model.specs.Due.{due_expiry}
use Rattle.machine_model.specs.State.{Machine}
use Rattle.machine_model.specs.Stepping.{step}
use Rattle.content_repo.specs.Slots.{IsReclaimed}
use Rattle.store_core.specs.Store.{StoreState, kept_by}
use Rattle.engine_change.specs.Expiring.{HaveContents}
use Rattle.engine_queues.specs.Queues.{queue_seen}
use Rattle.run_law.specs.Going.{IsBetween, IsStepped}
use Rattle.run_law.specs.Run.{IsStateOf}
use Rattle.run_law.specs.Work.{IsNoEarlier, IsShortOn, WritesLog}
use Rattle.engine_steps.specs.Engine.{EngineState, IsOfSameRun}
use Rattle.engine_steps.specs.Ready.{Expiry, due_behind, due_in}
use Rattle.engine_steps.specs.declared.error.EngineError.{EngineError}
use Rattle.engine_steps.specs.declared.error.EngineError.TheVariants.{Disk, Limit}
use Rattle.engine_steps.specs.declared.tending.Tended.{Tended}
use Rattle.engine_steps.specs.declared.tending.Tended.TheVariants.{Expired, Checkpointed, Reclaimed, Nothing}

-- ---- counting

-- an entry more, as far as a counter of 64 bits goes
abbrev pub counted_on : ℕ → ℕ
counted_on count = min (count + 1) (2 ^ 64 - 1)

-- ---- files expire

-- there is such a step, and what it leaves is so
pub record GoesTo (flow : Flow) (before : Machine) (one : Step) (so : Machine → Type 0) : Type 0 where
  pub after : Machine
  pub goes : step flow before one ≡ Some after
  pub is_so : so after

-- Wherever live references stand for bytes as they say, and what is kept is the machine's state, the settled session
-- leaves the state that its step does by which these files expire.
abbrev pub MakesExpiry : Flow → Kept → (connection : ℕ) → List ℕ → (moment : ℕ) → Settled → Type 0
MakesExpiry flow k connection numbers moment settled =
    (contents : ContentRef → List ℕ) (before : Machine) → HaveContents contents k → IsStateOf before contents k
    → GoesTo flow before (Expire connection numbers moment)
    (λ after. state_after contents before.state settled ≡ after.state)

-- what is kept behind files of these numbers that went: but for them and the number of the last event it is as it was
abbrev pub IsKeptWithout : List ℕ → (k after : Kept) → Type 0
IsKeptWithout numbers k after =
    after ≡ record k { files = left_after numbers k.files; last_event = after.last_event }

-- The journal has one entry more: the expired files of the first connection that has some. These the store keeps no
-- longer.
pub record HasExpired (moment : ℕ) (acked : Option ℕ) (old new : EngineState) : Type 0 where
  pub connection : ℕ
  pub numbers : List ℕ
  pub due : due_expiry old.flow (queue_seen old.queues) moment ≡ Some (connection, numbers)
  pub journal : new.journal
      ≡ old.journal ++ record { step = Expire connection numbers moment; acked = acked } ∷ []
  pub kept : IsKeptWithout numbers (kept_by old.store) (kept_by new.store)

-- the step was done, ..
abbrev pub StepIsDone : {D : Type 0} → Flow → (D → ℕ) → (D → ℕ → Files → Type 0) → (lot : ℕ) → Machine → Step
    → (old new : D) → Type 0
StepIsDone flow moment images lot before one old new =
    GoesTo flow before one (λ after. IsStepped flow moment images lot before after old new)

-- .. or it was cut off
abbrev pub IsCutOff : {D : Type 0} → Flow → (D → ℕ) → (D → ℕ → Files → Type 0) → (lot : ℕ) → Machine → Step
    → (old new : D) → Type 0
IsCutOff flow moment images lot before one old new =
    GoesTo flow before one (λ after. IsBetween flow moment images lot before after old new)

-- ---- a new log

-- the log is the next one, and has no entries
abbrev pub IsCheckpointed : (old new : StoreState) → Type 0
IsCheckpointed old new =
    (number : ℕ) → old.log.number ≡ Some number → (new.log.number ≡ Some (number + 1)) × (new.entries ≡ 0)

-- ---- what a call has done

-- What a call leaves that tended, at a disk whose moment is then this one: an entry of the files that expired, which
-- may be in the journal, not acknowledged, where the disk failed; a new log; empty claims, as many as are told; or
-- nothing but that the engine knows it. What the store keeps changes by files that expire alone.
abbrev pub HasTended : Result Tended EngineError → (moment now : ℕ) → (old new : EngineState) → Type 0
HasTended (Ok Expired) moment now old new =
    HasExpired moment (Some now) old new × (new.since_reclaim ≡ counted_on old.since_reclaim)
HasTended (Ok Checkpointed) moment now old new =
    (new.journal ≡ old.journal) × IsCheckpointed old.store new.store × (new.since_reclaim ≡ old.since_reclaim)
    × (kept_by new.store ≡ kept_by old.store)
HasTended (Ok (Reclaimed answer)) moment now old new =
    (new.journal ≡ old.journal) × IsReclaimed old.store.slots new.store.slots answer × (new.since_reclaim ≡ 0)
    × (kept_by new.store ≡ kept_by old.store)
HasTended (Ok Nothing) moment now old new = new ≡ record old { tended = Some moment }
HasTended (Err Disk) moment now old new =
    ((new.journal ≡ old.journal) ⊎ HasExpired moment None old new) × (new.since_reclaim ≡ old.since_reclaim)
HasTended (Err _) moment now old new =
    (new.journal ≡ old.journal) × (new.since_reclaim ≡ old.since_reclaim) × (kept_by new.store ≡ kept_by old.store)

-- The first thing that is due at the moment is what was done, and only files that expired meet a limit. Where nothing
-- is due, the disk isn't called, and the log is short. A refusal that isn't the disk's leaves the disk as it was.
pub record TendsFirst {D : Type 0} (result : Result Tended EngineError) (moment_of : D → ℕ)
    (images : D → ℕ → Files → Type 0) (moment : ℕ) (e_old e_new : EngineState) (old new : D) : Type 0 where
  pub due : IfOk result (λ tended. due_behind tended ≡ due_in e_old moment)
  pub wanted : (limit : TheLimit) → IsErrOf result (Limit limit) → due_in e_old moment ≡ Some Expiry
  pub done : HasTended result moment (moment_of new) e_old e_new
  pub nothing : result ≡ Ok Nothing → (new ≡ old) × IsShortOn moment_of images e_old.checkpoint old
  pub refused : (error : EngineError) → IsErrOf result error → (error ≡ Disk → ⊥) → new ≡ old

-- What stays: the run's constants, the names and which are taken, who worked last, the sessions in flight, and the number
-- of the next one. The log is no earlier one. Only claims, files of events, the log and what may follow it are written.
pub record TendsAlone {D : Type 0} (result : Result Tended EngineError) (moment_of : D → ℕ)
    (images : D → ℕ → Files → Type 0) (e_old e_new : EngineState) (old new : D) : Type 0 where
  pub same : IsOfSameRun e_old e_new
  pub listing : e_new.listing ≡ e_old.listing
  pub last : e_new.last ≡ e_old.last
  pub out : e_new.out ≡ e_old.out
  pub next_session : e_new.next_session ≡ e_old.next_session
  pub log : OnOk result (IsNoEarlier e_old.store.log.number e_new.store.log.number)
  pub alone : WritesLog moment_of images e_old.store.log.number old new
