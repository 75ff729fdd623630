-- What files that expire ask of a store, and what they make of its state.
use Rattle.std.specs.Prelude.{◌≡◌, ℕ, ◌+◌, ◌<◌, true, false, List, [], length, map, All, Some, slice_get}
use Rattle.std.specs.List.{filter_map, list_all}
use Rattle.disk_trait.specs.Files.{Files}
use Rattle.sha2.specs.Sha256.{sha256}
use Rattle.flowfile_record.specs.Stored.{Kept}
use Rattle.flowfile_record.specs.declared.change.Settled.{Settled}
use Rattle.flowfile_record.specs.declared.content.ContentRef.{ContentRef}
use Rattle.flowfile_record.specs.declared.event.Event.{Event}
use Rattle.flowfile_record.specs.declared.event.EventKind.TheVariants as kind
use Rattle.flowfile_record.specs.declared.stored.ActiveFile.{ActiveFile}
use Rattle.checkpoint_store.specs.Consistent.{IsConsistent}
use Rattle.content_repo.specs.Claims.{content_in}
use Rattle.kept_state.specs.Fits.{active_of, are_active_in, are_distinct_numbers}
use Rattle.machine_model.specs.declared.flow.Connection.{Connection}
use Rattle.machine_model.specs.declared.flow.Flow.{Flow}
use Rattle.machine_model.specs.declared.journal.Step.TheVariants.{Expire}
use Rattle.machine_model.specs.Changing.{state_after}
use Rattle.machine_model.specs.Due.{due_expiry}
use Rattle.machine_model.specs.Events.{Draft, ascending, numbered_from}
use Rattle.machine_model.specs.Files.{queue_at, queues_of, view_of}
use Rattle.machine_model.specs.State.{World}
use Rattle.machine_model.specs.Stepping.{expired, files_of, step}
use Rattle.machine_model.specs.View.{FileView, QueueView, is_expired}
use Rattle.store_core.specs.Flow.{flow_in}
use Rattle.store_core.specs.State.{live_contents, state_with}
use Rattle.store_core.specs.Store.{StoreState, kept_by, FilesHold}
use Rattle.engine_change.specs.Committing.{AreEventsUpTo, identity_of}

-- ---- what may expire

-- the files of these numbers are kept in the connection at this place; each number stands once, and they ascend
pub record MayExpireIn (flow : Flow) (k : Kept) (place : ℕ) (numbers : List ℕ) : Type 0 where
  pub connection : place < length flow.connections
  pub active : are_active_in k.files place numbers ≡ true
  pub distinct : are_distinct_numbers numbers ≡ true
  pub in_order : ascending numbers ≡ numbers

-- ---- its events

-- the files of these numbers that are kept
abbrev pub expiring_files : Kept → List ℕ → List ActiveFile
expiring_files k numbers = filter_map (λ number. active_of number k.files) numbers

-- it tells that a file expired in the connection of this id
abbrev pub expiry_event : (component : List ℕ) → (moment : ℕ) → ActiveFile → (number : ℕ) → Event
expiry_event component moment a number = record {
  number = number;
  kind = kind.Expire;
  moment = moment;
  component = component;
  file = a.file.number;
  parents = [];
  children = [];
  detail = [];
  size = a.file.content.size;
  digest = a.file.content.digest;
}

abbrev pub expiry_draft : (component : List ℕ) → (moment : ℕ) → ActiveFile → Draft
expiry_draft component moment a = record { event = expiry_event component moment a; kin = [] }

-- one for each of these files, numbered behind the last event
abbrev pub expiry_events : (component : List ℕ) → (moment : ℕ) → Kept → (last : ℕ) → List ℕ → List Event
expiry_events component moment k last numbers =
    numbered_from (last + 1) (map (expiry_draft component moment) (expiring_files k numbers))

-- ---- the state behind it

-- the reference stands for bytes of its size and its digest
pub record StandsForItsBytes (contents : ContentRef → List ℕ) (at : ContentRef) : Type 0 where
  pub size : length (contents at) ≡ at.size
  pub digest : sha256 (contents at) ≡ at.digest

-- each live reference does
abbrev pub HaveContents : (ContentRef → List ℕ) → Kept → Type 0
HaveContents contents k = All (StandsForItsBytes contents) (live_contents k)

-- Whatever bytes live references stand for, where these have their sizes and their digests, and whatever the events so
-- far tell: behind what is kept the settled session leaves the state that the machine does.
abbrev pub LeavesExpired : Flow → Kept → (place : ℕ) → List ℕ → (moment : ℕ) → Settled → Type 0
LeavesExpired flow k place numbers moment settled =
    (connection : Connection) → slice_get flow.connections place ≡ Some connection
    → (contents : ContentRef → List ℕ) → HaveContents contents k
    → (events : List Event) → AreEventsUpTo k.last_event events
    → state_after contents (state_with contents events k) settled
    ≡ expired (state_with contents events k) place connection numbers moment

-- ---- laws

-- Where some files may expire, and did by the machine, there is a step for it, which leaves the state that has them
-- expired.
abbrev pub ExpiriesAreSteps : Type 0
ExpiriesAreSteps =
    (flow : Flow) (world : World) (contents : ContentRef → List ℕ) (events : List Event) (k : Kept) (place : ℕ)
    (connection : Connection) (numbers : List ℕ) (moment : ℕ)
    → IsConsistent k → k.batches ≡ [] → flow_in k ≡ identity_of flow → AreEventsUpTo k.last_event events
    → slice_get flow.connections place ≡ Some connection
    → MayExpireIn flow k place numbers → 0 < length numbers
    → list_all (is_expired connection.limits.expiration moment)
    (map view_of (files_of (queue_at (state_with contents events k) place) numbers)) ≡ true
    → step flow (record { state = state_with contents events k; world = world }) (Expire place numbers moment)
    ≡ Some (record {
      state = expired (state_with contents events k) place connection numbers moment;
      world = world;
    })

-- there is a step for these files, which may expire, and this is what it leaves
pub record HasExpiryStep (flow : Flow) (world : World) (contents : ContentRef → List ℕ) (events : List Event) (k : Kept)
    (place : ℕ) (numbers : List ℕ) (moment : ℕ) : Type 0 where
  pub may : MayExpireIn flow k place numbers
  pub some : 0 < length numbers
  pub connection : Connection
  pub at : slice_get flow.connections place ≡ Some connection
  pub goes : step flow (record { state = state_with contents events k; world = world }) (Expire place numbers moment)
      ≡ Some (record {
        state = expired (state_with contents events k) place connection numbers moment;
        world = world;
      })

-- a file as it is seen, whether it is in flight or not
abbrev pub without_flight : FileView → FileView
without_flight file = record file { in_flight = false }

-- The queues show the same files as these others, in the same order, but for which of them are in flight.
pub record ShowFilesOf (queues others : ℕ → QueueView) : Type 0 where
  pub files : (place : ℕ) → map without_flight (queues place).active ≡ map without_flight (others place).active

-- what is due by queues that show the machine's files, whichever are in flight, may expire
abbrev pub DueExpiriesMayExpire : Type 0
DueExpiriesMayExpire =
    (flow : Flow) (world : World) (contents : ContentRef → List ℕ) (events : List Event) (k : Kept)
    (queues : ℕ → QueueView) (place : ℕ) (numbers : List ℕ) (moment : ℕ)
    → IsConsistent k → k.batches ≡ [] → flow_in k ≡ identity_of flow → AreEventsUpTo k.last_event events
    → ShowFilesOf queues (queues_of (state_with contents events k))
    → due_expiry flow queues moment ≡ Some (place, numbers)
    → HasExpiryStep flow world contents events k place numbers moment

-- files that hold what a store has in memory have each live content in its size and its digest
abbrev pub HeldContentsAreRead : Type 0
HeldContentsAreRead =
    (s : StoreState) (files : Files) → FilesHold s files → HaveContents (content_in files) (kept_by s)

-- numbers that ascend stay as they are
abbrev pub AscendingStay : Type 0
AscendingStay = (numbers : List ℕ) → ascending (ascending numbers) ≡ ascending numbers
