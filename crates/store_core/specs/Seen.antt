-- What a query sees of a store. It knows no flow, and writes nothing.
use Rattle.std.specs.Prelude.{◌≡◌, ◌↔◌, ℕ, Bool, IsTrue, List, [], Contains, Option, None, Some, option_map, Ok}
use Rattle.disk_trait.specs.Files.{Files}
use Rattle.flowfile_record.specs.NumberedItems.{item_of}
use Rattle.flowfile_record.specs.Stored.{Kept}
use Rattle.flowfile_record.specs.declared.stored.ActiveFile.{ActiveFile}
use Rattle.flowfile_wal.specs.Current.{current_number}
use Rattle.content_repo.specs.Claims.{content_in, IsRead}
use Rattle.kept_state.specs.Memory.{InMemory}
use Rattle.machine_model.specs.Files.{queue_at}
use Rattle.machine_model.specs.State.{QueuedFile, State}
use Rattle.prov_store.specs.State.{EventsState, HasEvents}
use Rattle.store_core.specs.Flow.{Flow}
use Rattle.store_core.specs.Kept.{kept_in}
use Rattle.store_core.specs.New.{kept_anew}
use Rattle.store_core.specs.State.{contents_damage, live_contents, state_with, stands_for}

-- ---- what is seen

-- The flow of a query. Each store's digest has bytes, so that no store is of this flow, and each agrees with it.
abbrev pub no_flow : Flow
no_flow = record { digest = []; connections = []; processors = 0 }

-- what is kept, none where no store is made yet; and what is known of the files of events
pub record SeenState : Type 0 where
  pub stored : Option Kept
  pub events : EventsState

abbrev pub seen_in : Option InMemory → EventsState → SeenState
seen_in memory events = record { stored = option_map (λ m. m.kept) memory; events = events }

-- where no store is made yet, it is what a new one keeps: no connections, no files and no events
abbrev pub or_anew : Option Kept → Kept
or_anew (Some k) = k
or_anew None = kept_anew no_flow 0

abbrev pub kept_seen : SeenState → Kept
kept_seen s = or_anew s.stored

-- The files hold what was seen: they keep it, they have the events that are known, and so they stand for a state. No
-- store is made yet exactly where no log is current, and no event is forgotten.
pub record IsSeenOn (files : Files) (s : SeenState) : Type 0 where
  pub kept : kept_in no_flow 0 files ≡ Ok (kept_seen s)
  pub made : (s.stored ≡ None) ↔ (current_number files ≡ None)
  pub events : HasEvents s.events files
  pub last_event : s.events.end ≡ (kept_seen s).last_event
  pub line : s.events.line ≡ 0
  pub stands : stands_for no_flow 0 files ≡ Ok (state_with (content_in files) events.events (kept_seen s))

-- what was read beside what is kept: where the disk tells, the live contents are sound, and the events are known
pub record IsReadOf (tells : Bool) (files : Files) (stored : Option Kept) (s : SeenState) : Type 0 where
  pub stored_is : s.stored ≡ stored
  pub last_event : s.events.end ≡ (or_anew stored).last_event
  pub line : s.events.line ≡ 0
  pub sound : IsTrue tells → contents_damage files (live_contents (or_anew stored)) ≡ None
  pub events : IsTrue tells → HasEvents s.events files

-- ---- what is asked of it

-- Where the disk tells, and still holds what was seen, P holds of the state that its files stand for.
abbrev pub OfTheState : (tells : Bool) → Files → SeenState → (State → Type 0) → Type 0
OfTheState tells files s P =
    IsTrue tells → IsSeenOn files s → (state : State) → stands_for no_flow 0 files ≡ Ok state → P state

-- the live file of a number
abbrev pub live_file : ℕ → SeenState → Option ActiveFile
live_file number s = item_of (λ a. a.file.number) number (kept_seen s).files

-- Bytes are read exactly of a file that is there. They have the size and the digest of its content, and where the disk
-- tells they are that content.
abbrev pub IsContentRead : (tells : Bool) → Files → Option ActiveFile → Option (List ℕ) → Type 0
IsContentRead tells files None None = Unit {0}
IsContentRead tells files None (Some bytes) = ⊥
IsContentRead tells files (Some active) None = ⊥
IsContentRead tells files (Some active) (Some bytes) = IsRead tells files active.file.content bytes

-- a file of the state's queues has this number, and these bytes
pub record HasContent (number : ℕ) (bytes : List ℕ) (state : State) : Type 0 where
  pub place : ℕ
  pub file : QueuedFile
  pub queued : Contains (queue_at state place) file
  pub numbered : file.number ≡ number
  pub bytes_are : file.bytes ≡ bytes

-- the bytes of the state's file of a number; none where it has no such file
abbrev pub IsContentOf : (number : ℕ) → Option (List ℕ) → State → Type 0
IsContentOf number (Some bytes) state = HasContent number bytes state
IsContentOf number None state =
    (place : ℕ) (file : QueuedFile) → Contains (queue_at state place) file → file.number ≡ number → ⊥
