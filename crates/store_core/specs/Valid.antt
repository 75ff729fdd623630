-- What is kept, as a state of the machine.
use Rattle.std.specs.Prelude.{◌≡◌, ℕ, List, [], length, Contains, Ok}
use Rattle.disk_trait.specs.Files.{Files}
use Rattle.flowfile_record.specs.Stored.{Kept}
use Rattle.flowfile_record.specs.declared.content.ContentRef.{ContentRef}
use Rattle.flowfile_record.specs.declared.event.Event.{Event}
use Rattle.flowfile_record.specs.declared.stored.ActiveFile.{ActiveFile}
use Rattle.checkpoint_store.specs.Consistent.{IsConsistent}
use Rattle.content_repo.specs.Claims.{content_in}
use Rattle.machine_model.specs.declared.flow.Flow.{Flow}
use Rattle.machine_model.specs.Files.{queue_at}
use Rattle.machine_model.specs.State.{QueuedFile}
use Rattle.machine_model.specs.Valid.{IsValid}
use Rattle.prov_store.specs.Events.{events_in}
use Rattle.prov_store.specs.State.{AreNumberedFrom}
use Rattle.store_core.specs.Flow.{flow_in}
use Rattle.store_core.specs.State.{queued_active, state_with, stands_for}
use Rattle.store_core.specs.Store.{StoreState, kept_by, FilesHold}

-- what is kept without batches is, with its events in a row, a valid state of each flow with as many connections and
-- processors
abbrev pub KeptIsValid : Type 0
KeptIsValid =
    (flow : Flow) (contents : ContentRef → List ℕ) (events : List Event) (k : Kept) → IsConsistent k → k.batches ≡ []
    → AreNumberedFrom 1 events → length events ≡ k.last_event
    → length k.connections ≡ length flow.connections → length k.counts ≡ length flow.processors
    → IsValid flow (state_with contents events k)

-- each live file stands in the queue of its connection
abbrev pub LiveFilesAreQueued : Type 0
LiveFilesAreQueued =
    (contents : ContentRef → List ℕ) (events : List Event) (k : Kept) (a : ActiveFile) → IsConsistent k
    → Contains k.files a → Contains (queue_at (state_with contents events k) a.connection) (queued_active contents a)

-- this file of a queue is a live one of its connection
pub record IsLive (contents : ContentRef → List ℕ) (k : Kept) (place : ℕ) (file : QueuedFile) : Type 0 where
  pub active : ActiveFile
  pub there : Contains k.files active
  pub connection : active.connection ≡ place
  pub is : queued_active contents active ≡ file

-- and nothing else stands in a queue
abbrev pub QueuedFilesAreLive : Type 0
QueuedFilesAreLive =
    (contents : ContentRef → List ℕ) (events : List Event) (k : Kept) (place : ℕ) (file : QueuedFile)
    → Contains (queue_at (state_with contents events k) place) file → IsLive contents k place file

-- files that hold what a store has in memory stand for it, with the contents and the events that stand in them
abbrev pub HeldFilesStandForKept : Type 0
HeldFilesStandForKept =
    (s : StoreState) (files : Files) (events : List Event) → FilesHold s files
    → events_in files 0 (kept_by s).last_event ≡ Ok events
    → stands_for (flow_in (kept_by s)) s.lot files ≡ Ok (state_with (content_in files) events (kept_by s))
