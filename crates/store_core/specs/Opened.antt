-- What opening a store finds and leaves.
use Rattle.std.specs.Prelude.{◌≡◌, ◌≢◌, ◌⊎◌, ℕ, ◌^◌, ◌<◌, Bool, false, IsTrue, List, [], ◌++◌, length, Ok, Err, None, Some}
use Rattle.disk_trait.specs.declared.file_name.FileKind.TheVariants.{Claim}
use Rattle.record_codec.specs.declared.TheConstants.{FORMAT_VERSION}
use Rattle.checkpoint_store.specs.Begun.{IsBegun}
use Rattle.checkpoint_store.specs.Consistent.{IsConsistent}
use Rattle.checkpoint_store.specs.Snapshot.{snapshot, snapshot_file}
use Rattle.content_repo.specs.Claims.{claim}
use Rattle.content_repo.specs.Slots.{covered}
use Rattle.disk_trait.specs.Files.{Files, named}
use Rattle.disk_trait.specs.declared.damage.Damage.{Damage}
use Rattle.flowfile_record.specs.Stored.{Kept}
use Rattle.flowfile_wal.specs.Current.{current_number}
use Rattle.machine_model.specs.State.{State}
use Rattle.prov_store.specs.Events.{events_file}
use Rattle.prov_store.specs.State.{EventsState, HasEvents, HasStale}
use Rattle.store_core.specs.Discard.{HasNoOthers}
use Rattle.store_core.specs.Flow.{Flow, flow_in}
use Rattle.store_core.specs.Kept.{kept_in}
use Rattle.store_core.specs.Found.{StoreIsFoundIn}
use Rattle.store_core.specs.New.{kept_anew}
use Rattle.store_core.specs.Calls.{IsUnwritten}
use Rattle.store_core.specs.State.{stands_for, contents_damage, live_contents}
use Rattle.store_core.specs.Store.{StoreState, kept_by, live_in, IsKeptOn}
use Rattle.store_core.specs.Touched.{log_opened}
use Rattle.store_core.specs.declared.reading.Found.{Found}

-- the store that was opened: it is of this flow, and works; the live contents are those of the opening
pub record IsOpenedFor (flow : Flow) (lot : ℕ) (s : StoreState) : Type 0 where
  pub flow_is : flow_in (kept_by s) ≡ flow
  pub lot_is : s.lot ≡ lot
  pub works : s.failed ≡ false
  pub contents : s.opened ≡ live_in s

-- the files kept what the store has in memory, and stood for a state; its log is their current one, or the first
pub record IsFound (flow : Flow) (lot : ℕ) (s : StoreState) (files : Files) : Type 0 where
  pub log : s.log.number ≡ Some (log_opened (current_number files))
  pub kept : kept_in flow lot files ≡ Ok (kept_by s)
  pub state : State
  pub stood : stands_for flow lot files ≡ Ok state

-- What doesn't matter is gone: other logs and snapshots than the current ones, batches, and the bytes of each claim
-- behind its last live content.
pub record HasNoLeftovers (s : StoreState) (files : Files) : Type 0 where
  pub others : HasNoOthers s.log.number files
  pub claims : (n : ℕ) → length (files (claim n)) ≡ covered n (live_in s)

-- The store is opened on a disk: it is of this flow, and each image of now holds it. Where the disk tells, it is what
-- the files stood for, and nothing else is left of them.
pub record IsOpenedOn {D : Type 0} (tells : Bool) (held : D → Files) (moment : D → ℕ) (images : D → ℕ → Files → Type 0)
    (flow : Flow) (lot : ℕ) (old new : D) (s : StoreState) : Type 0 where
  pub opened : IsOpenedFor flow lot s
  pub found : IsTrue tells → IsFound flow lot s (held old)
  pub kept : IsKeptOn tells held moment images s new
  pub tidy : IsTrue tells → HasNoLeftovers s (held new)

-- these files stand for a state of another flow, whose digest is this
pub record IsOfOther (flow : Flow) (lot : ℕ) (digest : List ℕ) (files : Files) : Type 0 where
  pub state : State
  pub stands : stands_for flow lot files ≡ Ok state
  pub kept : Kept
  pub keeps : kept_in flow lot files ≡ Ok kept
  pub is : kept.flow ≡ digest
  pub other : digest ≢ flow.digest

-- these files may not be opened for this flow: they stand for no state, or for one of another flow
abbrev pub IsShut : Flow → (lot : ℕ) → Files → Type 0
IsShut flow lot files =
    ((damage : Damage) × (stands_for flow lot files ≡ Err damage))
    ⊎ ((digest : List ℕ) × IsOfOther flow lot digest files)

-- Damage is told: where the disk tells it is the first one of the files, and they were only read.
pub record IsToldDamaged {D : Type 0} (flow : Flow) (tells : Bool) (held : D → Files) (moment : D → ℕ) (lot : ℕ)
    (damage : Damage) (old new : D) : Type 0 where
  pub stands : IsTrue tells → stands_for flow lot (held old) ≡ Err damage
  pub unwritten : IsUnwritten held moment old new

-- Another flow is told, by its digest and that of this one: where the disk tells, the files are of it. They were only
-- read.
pub record IsToldOther {D : Type 0} (flow : Flow) (tells : Bool) (held : D → Files) (moment : D → ℕ) (lot : ℕ)
    (digest asked : List ℕ) (old new : D) : Type 0 where
  pub asked_is : asked ≡ flow.digest
  pub stands : IsTrue tells → IsOfOther flow lot digest (held old)
  pub unwritten : IsUnwritten held moment old new

-- these files keep and stand for what those do
pub record SameMeaning (flow : Flow) (lot : ℕ) (old new : Files) : Type 0 where
  pub kept : kept_in flow lot new ≡ kept_in flow lot old
  pub state : stands_for flow lot new ≡ stands_for flow lot old

-- what was read is all that the files stand for: nothing of it is damaged
pub record IsReadWhole (tells : Bool) (lot : ℕ) (files : Files) (found : Found) (known : EventsState) : Type 0 where
  pub consistent : IsConsistent found.state.kept
  pub no_batches : found.state.kept.batches ≡ []
  pub last_event : known.end ≡ found.state.kept.last_event
  pub line : known.line ≡ 0
  pub anew : found.log.number ≡ None → found.state.kept ≡ kept_anew (flow_in found.state.kept) lot
  pub empty : found.log.number ≡ None → found.entries ≡ 0
  pub small : found.entries < 2 ^ 64
  pub works : found.log.failed ≡ false
  pub told : IsTrue tells → StoreIsFoundIn (flow_in found.state.kept) lot files found
  pub contents : IsTrue tells → contents_damage files (live_contents found.state.kept) ≡ None
  pub events : IsTrue tells → HasEvents known files
  pub stale : IsTrue tells → HasStale known files

-- the store has in memory what was read
pub record IsRevived (lot : ℕ) (found : Found) (s : StoreState) : Type 0 where
  pub log : s.log.number ≡ Some (log_opened found.log.number)
  pub kept : kept_by s ≡ found.state.kept
  pub lot_is : s.lot ≡ lot
  pub works : s.failed ≡ false
  pub contents : s.opened ≡ live_in s

-- A store that was just made: its log has its Begin alone, its snapshot says this, and there is nothing else.
pub record IsNewStore (k : Kept) (files : Files) : Type 0 where
  pub log : IsBegun FORMAT_VERSION 1 files
  pub snapshot : (rest : List ℕ) × (files (snapshot_file 1) ≡ snapshot FORMAT_VERSION k ++ rest)
  pub claims : (n : ℕ) → n < 2 ^ 64 → files (named Claim n) ≡ []
  pub events : (n : ℕ) → n < 2 ^ 64 → files (events_file n) ≡ []
