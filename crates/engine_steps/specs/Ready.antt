-- What is due of an engine, and what holds of it between two calls on any devices.
use Rattle.std.specs.Prelude.{◌≡◌, ℕ, ◌-◌, ◌^◌, ◌<◌, ◌≤◌, ◌&&◌, nat_lt, Bool, true, false, IsTrue, List, Option, None, Some, length, is_some, option_map}
use Rattle.std.specs.Option.{option_map_or}
use Rattle.disk_trait.specs.Files.{Files}
use Rattle.flowfile_record.specs.NamedFile.{NamedFile}
use Rattle.machine_model.specs.Due.{due_expiry, is_checkpoint_due, is_reclaim_due}
use Rattle.machine_model.specs.declared.journal.Step.{Step}
use Rattle.machine_model.specs.declared.journal.Step.TheVariants.{Expire}
use Rattle.machine_model.specs.Sound.{IsSound}
use Rattle.store_core.specs.Store.{StoreState, kept_by}
use Rattle.store_core.specs.Flow.{flow_in}
use Rattle.engine_change.specs.Committing.{identity_of}
use Rattle.engine_queues.specs.Listing.{AreDistinct}
use Rattle.engine_queues.specs.Queues.{AreQueuesOf, queue_seen}
use Rattle.run_law.specs.Work.{IsAtWork}
use Rattle.engine_steps.specs.Engine.{AreTakeable, EngineState}
use Rattle.engine_steps.specs.Flights.{AreInFlight, names_to_come, taken_by}
use Rattle.engine_steps.specs.declared.tending.Tended.{Tended}
use Rattle.engine_steps.specs.declared.tending.Tended.TheVariants.{Expired, Checkpointed, Reclaimed, Nothing}

-- ---- what is due

-- a new log is: the log has entries, as many as it takes
abbrev pub is_log_due : (checkpoint : ℕ) → StoreState → Bool
is_log_due checkpoint s =
    nat_lt 0 s.entries && option_map_or (λ number. is_checkpoint_due checkpoint s.entries number) s.log.number false

-- what can be due: that expired files go, a new log, or that claims be reclaimed
pub data Due : Type 0 where
  Expiry : Due
  Log : Due
  Claims : Due

-- which of these comes first
abbrev pub due_first : (expired log claims : Bool) → Option Due
due_first true log claims = Some Expiry
due_first false true claims = Some Log
due_first false false true = Some Claims
due_first false false false = None

-- what is due first at this moment, beside the sessions in flight: none of their files expires
abbrev pub due_in : EngineState → (moment : ℕ) → Option Due
due_in e moment =
    due_first (is_some (due_expiry e.flow (queue_seen e.queues) moment)) (is_log_due e.checkpoint e.store)
    (is_reclaim_due e.since_reclaim)

-- the step by which files expire at this moment, if any do
abbrev pub expiry_in : EngineState → (moment : ℕ) → Option Step
expiry_in e moment =
    option_map (λ due. Expire due.0 due.1 moment) (due_expiry e.flow (queue_seen e.queues) moment)

-- what was due where this was done
abbrev pub due_behind : Tended → Option Due
due_behind Expired = Some Expiry
due_behind Checkpointed = Some Log
due_behind (Reclaimed answer) = Some Claims
due_behind Nothing = None

-- where it knows a moment at which nothing was due, nothing is due then
abbrev pub KnowsDue : EngineState → Type 0
KnowsDue e = (moment : ℕ) → e.tended ≡ Some moment → due_in e moment ≡ None

-- ---- between two calls

-- What it has in memory, whatever the disk holds: the queues are those of what its store keeps, in which the files of
-- sessions in flight are marked, and no name was listed twice.
pub record IsReadyInMemory (e : EngineState) : Type 0 where
  pub sound : IsSound e.flow
  pub flow_is : flow_in (kept_by e.store) ≡ identity_of e.flow
  pub queues : AreQueuesOf e.flow (kept_by e.store) (taken_by e.out) e.queues
  pub listing : e.listing.flow ≡ e.flow
  pub distinct : AreDistinct e.listing.listed
  pub flights : AreInFlight e.flow (kept_by e.store) e.listing e.next_session e.out
  pub most : e.most < 2 ^ 64 - 1
  pub entries : length e.journal ≤ e.most
  pub due : KnowsDue e

-- Its store works, and what it has in memory is as it should be.
pub record EngineIsReady {D : Type 0} (tells : Bool) (held : D → Files) (moment : D → ℕ)
    (images : D → ℕ → Files → Type 0) (e : EngineState) (disk : D) : Type 0 where
  pub work : IsAtWork e.flow tells held moment images e.store disk
  pub memory : IsReadyInMemory e

-- so it is, unless its store must be opened anew
abbrev pub IsUsable : {D : Type 0} → (tells : Bool) → (D → Files) → (D → ℕ) → (D → ℕ → Files → Type 0) → EngineState
    → (disk : D) → Type 0
IsUsable tells held moment images e disk = e.failed ≡ false → EngineIsReady tells held moment images e disk

-- .. and the files that are to come can be taken
pub record IsUsableWith {D : Type 0} (tells : Bool) (held : D → Files) (moment : D → ℕ)
    (images : D → ℕ → Files → Type 0) (in_tells : Bool) (left : List NamedFile) (e : EngineState) (disk : D)
    : Type 0 where
  pub usable : IsUsable tells held moment images e disk
  pub takeable : e.failed ≡ false → IsTrue in_tells → AreTakeable left (names_to_come e)
