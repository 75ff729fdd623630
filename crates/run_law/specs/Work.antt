-- A store at work for a flow, and what its calls leave on any disk.
use Rattle.std.specs.Prelude.{◌≡◌, ◌⊎◌, ℕ, ◌≤◌, ◌<◌, Bool, false, IsTrue, [], length, Option, Some, Ok}
use Rattle.disk_trait.specs.Files.{Files}
use Rattle.disk_trait.specs.Images.{After, Since}
use Rattle.disk_trait.specs.declared.file_name.FileKind.TheVariants.{Claim, Events, Log, Snapshot}
use Rattle.disk_trait.specs.declared.file_name.FileName.{FileName}
use Rattle.flowfile_record.specs.declared.change.Settled.{Settled}
use Rattle.flowfile_wal.specs.Calls.{InEach}
use Rattle.flowfile_wal.specs.Current.{CurrentLog, current_log}
use Rattle.kept_state.specs.declared.limit.Limit.{Limit}
use Rattle.machine_model.specs.declared.flow.Flow.{Flow}
use Rattle.machine_model.specs.Due.{is_checkpoint_due}
use Rattle.store_core.specs.Change.{MayChange, IsLimitOf}
use Rattle.store_core.specs.Flow.{flow_in}
use Rattle.store_core.specs.Store.{StoreState, kept_by, live_in, IsKeptOn}
use Rattle.store_core.specs.Touched.{OnlyShortens, TouchesOnly, Frees}
use Rattle.engine_change.specs.Committing.{identity_of}

-- the store is of the flow, works, and has in memory what the disk holds
pub record IsAtWork {D : Type 0} (flow : Flow) (tells : Bool) (held : D → Files) (moment : D → ℕ)
    (images : D → ℕ → Files → Type 0) (s : StoreState) (disk : D) : Type 0 where
  pub works : s.failed ≡ false
  pub flow_is : flow_in (kept_by s) ≡ identity_of flow
  pub kept : IsKeptOn tells held moment images s disk

-- ---- which files change

-- this number is the log's or a later one, ..
abbrev pub IsFrom : (log : Option ℕ) → ℕ → Type 0
IsFrom log n = (first : ℕ) × (log ≡ Some first) × (first ≤ n)

-- .. or a later one
abbrev pub IsLaterLog : (log : Option ℕ) → ℕ → Type 0
IsLaterLog log n = (first : ℕ) × (log ≡ Some first) × (first < n)

-- the log's number is the same or a later one
abbrev pub IsNoEarlier : (old new : Option ℕ) → Type 0
IsNoEarlier old new = (n : ℕ) → new ≡ Some n → IsFrom old n

-- what is written behind a log of this number: files of claims and of events, this log and later ones, and later
-- snapshots
abbrev pub MayWriteFrom : (log : Option ℕ) → FileName → Type 0
MayWriteFrom log f =
    (f.kind ≡ Claim) ⊎ (f.kind ≡ Events) ⊎ ((f.kind ≡ Log) × IsFrom log f.number)
    ⊎ ((f.kind ≡ Snapshot) × IsLaterLog log f.number)

-- Each other file is as it was or shorter, and the same but for this log's snapshot.
pub record WritesFrom (log : Option ℕ) (old new : Files) : Type 0 where
  pub shorter : OnlyShortens (MayWriteFrom log) old new
  pub others : TouchesOnly (λ f. MayWriteFrom log f ⊎ ((f.kind ≡ Snapshot) × IsFrom log f.number)) old new

abbrev pub WritesLog : {D : Type 0} → (D → ℕ) → (D → ℕ → Files → Type 0) → (log : Option ℕ) → (old new : D) → Type 0
WritesLog moment images log old new =
    Since moment images old new (After (WritesFrom log) (images old (moment old)))

-- ---- how long the log is

-- No checkpoint is due of the current log, or it has just begun: it has fewer entries than `checkpoint`, or none, or no
-- other log can follow it.
pub record HasShortLog (checkpoint : ℕ) (files : Files) : Type 0 where
  pub log : CurrentLog
  pub current : current_log files ≡ Ok (Some log)
  pub short : (log.entries ≡ []) ⊎ (is_checkpoint_due checkpoint (length log.entries) log.number ≡ false)

-- so of whatever a stop leaves now
abbrev pub IsShortOn : {D : Type 0} → (D → ℕ) → (D → ℕ → Files → Type 0) → (checkpoint : ℕ) → (disk : D) → Type 0
IsShortOn moment images checkpoint disk = InEach (images disk (moment disk)) (HasShortLog checkpoint)

-- ---- why a run ends

-- A store at work was asked for this change, which would pass a limit, the first of them.
pub record IsRefused {D : Type 0} (flow : Flow) (tells : Bool) (held : D → Files) (moment : D → ℕ)
    (images : D → ℕ → Files → Type 0) (limit : Limit) (s : StoreState) (disk : D) : Type 0 where
  pub work : IsAtWork flow tells held moment images s disk
  pub settled : Settled
  pub may : MayChange (kept_by s) settled
  pub passes : IsLimitOf s settled limit

-- It is a device that doesn't tell what it holds. On a disk that tells, no live content is damaged.
abbrev pub DoesNotTell : (tells : Bool) → Type 0
DoesNotTell tells = IsTrue tells → ⊥

-- A store at work refused a change by this limit, from this moment on, and then it was closed: by that only claims
-- without a live content changed.
pub record IsEndedByLimit {D : Type 0} (flow : Flow) (tells : Bool) (held : D → Files) (moment : D → ℕ)
    (images : D → ℕ → Files → Type 0) (lot start : ℕ) (limit : Limit) (new : D) : Type 0 where
  pub at : D
  pub from : start ≤ moment at
  pub store : StoreState
  pub lot_is : store.lot ≡ lot
  pub refused : IsRefused flow tells held moment images limit store at
  pub closed : Since moment images at new (After (Frees (live_in store)) (images at (moment at)))
