-- What a store has in memory, and how it is tied to its disk.
use Rattle.std.specs.Prelude.{◌≡◌, ◌≢◌, ℕ, ◌+◌, ◌-◌, ◌^◌, ◌≤◌, min, Bool, true, false, IsTrue, is_some, List, [], length, All, Contains, None, Some, Ok}
use Rattle.disk_trait.specs.Files.{Files}
use Rattle.flowfile_record.specs.Stored.{Kept}
use Rattle.flowfile_record.specs.declared.content.ContentRef.{ContentRef}
use Rattle.flowfile_record.specs.declared.limits.TheConstants.{LIVE_FILES_MAX}
use Rattle.content_repo.specs.Claims.{claim, HasSizes}
use Rattle.content_repo.specs.Slots.{count_of, size_of, held_in, end_of, references_to, IsNamed}
use Rattle.content_repo.specs.declared.slot.Slot.{Slot}
use Rattle.flowfile_wal.specs.Calls.{InEach}
use Rattle.flowfile_wal.specs.Current.{CurrentLog, current_log}
use Rattle.flowfile_wal.specs.Steps.{LogState, IsReadyIn}
use Rattle.kept_state.specs.Memory.{InMemory}
use Rattle.prov_store.specs.State.{EventsState, HasEvents, IsTrimmed}
use Rattle.machine_model.specs.State.{State}
use Rattle.store_core.specs.Flow.{Flow, flow_in}
use Rattle.store_core.specs.Kept.{kept_in}
use Rattle.store_core.specs.State.{contents_damage, live_contents, stands_for}

-- What is kept, with room for more files; the current log, and how many entries it has, counted up to 2^64 - 1; the
-- slots of the contents; those that were live when the store was opened; what is known of the files of events; the lot
-- that a new store was to be made of; whether a call met a failure of the disk.
pub record StoreState : Type 0 where
  pub memory : InMemory
  pub log : LogState
  pub entries : ℕ
  pub slots : List Slot
  pub opened : List ContentRef
  pub events : EventsState
  pub lot : ℕ
  pub failed : Bool

abbrev pub store_in : InMemory → LogState → (entries : ℕ) → List Slot → (opened : List ContentRef) → EventsState
    → (lot : ℕ) → (failed : Bool) → StoreState
store_in memory log entries slots opened events lot failed = record {
  memory = memory;
  log = log;
  entries = entries;
  slots = slots;
  opened = opened;
  events = events;
  lot = lot;
  failed = failed;
}

abbrev pub kept_by : StoreState → Kept
kept_by s = s.memory.kept

-- the live contents, and those of the opening
abbrev pub live_in : StoreState → List ContentRef
live_in s = live_contents (kept_by s)

-- Each live content is held once, and once more each of the opening's. The claims reach to the ends of the live ones.
-- The last event of what is kept is the last one that is known.
pub record IsWorking (s : StoreState) : Type 0 where
  pub log : s.log.failed ≡ false
  pub last_event : (kept_by s).last_event ≡ s.events.end
  pub counts : (k : ℕ) → count_of s.slots k ≡ references_to k (live_in s) + references_to k s.opened
  pub held : held_in s.slots ≡ length (live_in s) + length s.opened
  pub named : All IsNamed (live_in s)
  pub within : All (λ at. end_of at ≤ size_of s.slots at.slot) (live_in s)

-- what a store in memory keeps true
pub record IsSoundStore (s : StoreState) : Type 0 where
  pub current : IsTrue (is_some s.log.number)
  pub mended : s.log.mended ≡ true
  pub opened : length s.opened ≤ LIVE_FILES_MAX
  pub works : s.failed ≡ false → IsWorking s

-- the files keep what the store has in memory, with all live contents and all events, of which none is forgotten
pub record FilesHold (s : StoreState) (files : Files) : Type 0 where
  pub kept : kept_in (flow_in (kept_by s)) s.lot files ≡ Ok (kept_by s)
  pub contents : contents_damage files (live_in s) ≡ None
  pub events : HasEvents s.events files
  pub line : s.events.line ≡ 0

-- the current log of the files is the one in memory
pub record HasLog (s : StoreState) (files : Files) : Type 0 where
  pub ready : IsReadyIn s.log files
  pub entries : (log : CurrentLog) → current_log files ≡ Ok (Some log)
      → s.entries ≡ min (length log.entries) (2 ^ 64 - 1)

-- Unless a call met a failure of the disk: whatever a stop leaves now is what the store has in memory, the claims are
-- as long as it knows, and nothing stands behind the last event.
pub record IsKeptOn {D : Type 0} (tells : Bool) (held : D → Files) (moment : D → ℕ) (images : D → ℕ → Files → Type 0)
    (s : StoreState) (disk : D) : Type 0 where
  pub holds : s.failed ≡ false → InEach (images disk (moment disk)) (FilesHold s)
  pub log : s.failed ≡ false → InEach (images disk (moment disk)) (HasLog s)
  pub sizes : s.failed ≡ false → IsTrue tells → HasSizes s.slots (held disk)
  pub trimmed : s.failed ≡ false → IsTrue tells → IsTrimmed s.events.line s.events.end (held disk)

-- one of these contents stands in the claim of this number
abbrev pub StandsIn : ℕ → List ContentRef → Type 0
StandsIn n contents = (at : ContentRef) × Contains contents at × (at.slot ≡ n)

-- each claim that isn't empty has a live content
pub record IsTidy (k : Kept) (files : Files) : Type 0 where
  pub claims : (n : ℕ) → files (claim n) ≢ [] → StandsIn n (live_contents k)

-- all files that a stop may leave stand for this state
abbrev pub EachStandsFor : Flow → (lot : ℕ) → State → (Files → Type 0) → Type 0
EachStandsFor flow lot state left = InEach left (λ c. stands_for flow lot c ≡ Ok state)
