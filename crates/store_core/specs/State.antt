-- Which state of the machine files stand for: what they keep, with the bytes of the live contents and the events.
use Rattle.std.specs.Prelude.{ℕ, ◌==◌, nat_lt, List, [], ◌∷◌, length, map, filter, fold, bytes_eq, Option, None, Some, Result, Ok, Err, if◌then◌else◌}
use Rattle.std.specs.List.{enumerate_from}
use Rattle.std.specs.FinSet.{from_list}
use Rattle.sha2.specs.Sha256.{sha256}
use Rattle.disk_trait.specs.Files.{Files}
use Rattle.disk_trait.specs.declared.damage.Damage.{Damage}
use Rattle.disk_trait.specs.declared.damage.Damage.TheVariants.{Digest, Short}
use Rattle.flowfile_record.specs.Kin.{kin_of_all}
use Rattle.flowfile_record.specs.Stored.{Kept}
use Rattle.flowfile_record.specs.declared.content.ContentRef.{ContentRef}
use Rattle.flowfile_record.specs.declared.event.Event.{Event}
use Rattle.flowfile_record.specs.declared.stored.ActiveFile.{ActiveFile}
use Rattle.content_repo.specs.Claims.{claim, content_in}
use Rattle.content_repo.specs.Slots.{end_of}
use Rattle.machine_model.specs.Changing.{queued_file, with_arrival}
use Rattle.machine_model.specs.State.{QueuedFile, State}
use Rattle.prov_store.specs.Events.{events_in}
use Rattle.store_core.specs.Flow.{Flow}
use Rattle.store_core.specs.Kept.{kept_in}

-- ---- contents

abbrev pub digest_damage : ContentRef → List ℕ → Option Damage
digest_damage at bytes =
    if bytes_eq (sha256 bytes) at.digest then None
    else Some (Digest (claim at.slot) at.offset at.digest (sha256 bytes))

-- what is wrong with a content, if anything is
abbrev pub content_damage : Files → ContentRef → Option Damage
content_damage files at =
    if nat_lt (length (files (claim at.slot))) (end_of at)
    then Some (Short (claim at.slot) at.offset (end_of at) (length (files (claim at.slot))))
    else digest_damage at (content_in files at)

abbrev pub first_damage : Option Damage → Option Damage → Option Damage
first_damage None later = later
first_damage (Some damage) later = Some damage

-- the first that is wrong with one of these contents
abbrev pub contents_damage : Files → List ContentRef → Option Damage
contents_damage files [] = None
contents_damage files (at ∷ contents) = first_damage (content_damage files at) (contents_damage files contents)

-- the contents of the live files, by the files' numbers
abbrev pub live_contents : Kept → List ContentRef
live_contents k = map (λ active. active.file.content) k.files

-- ---- queues

-- a live file as one of a queue, with its bytes
abbrev pub queued_active : (ContentRef → List ℕ) → ActiveFile → QueuedFile
queued_active contents active = queued_file contents active.file

-- the queue of the connection at a place, by arrival
abbrev pub queue_of : (ContentRef → List ℕ) → List ActiveFile → (place : ℕ) → List QueuedFile
queue_of contents files place =
    fold with_arrival [] (map (queued_active contents) (filter (λ active. active.connection == place) files))

-- ---- the state

-- the state that is kept, with these contents and events
abbrev pub state_with : (ContentRef → List ℕ) → List Event → Kept → State
state_with contents events k = record {
  store = k.store;
  line = k.line;
  queues = map (λ connection. queue_of contents k.files connection.0) (enumerate_from 0 k.connections);
  events = events;
  kin = from_list (kin_of_all events);
  next_number = k.next_number;
  next_arrival = k.next_arrival;
  next_batch = k.next_batch;
  last_event = k.last_event;
  counts = k.counts;
}

abbrev pub state_by : Files → Kept → Option Damage → Result (List Event) Damage → Result State Damage
state_by files k (Some damage) events = Err damage
state_by files k None (Err damage) = Err damage
state_by files k None (Ok events) = Ok (state_with (content_in files) events k)

-- the state of what is kept in files, or the first damage of a live content or of the events
unfoldable pub state_of : Files → Kept → Result State Damage
state_of files k = state_by files k (contents_damage files (live_contents k)) (events_in files 0 k.last_event)

abbrev pub behind_kept : Files → Result Kept Damage → Result State Damage
behind_kept files (Ok k) = state_of files k
behind_kept files (Err damage) = Err damage

-- The state that files stand for, for who has this flow, or their first damage. The lot is what a new store is made of.
unfoldable pub stands_for : Flow → (lot : ℕ) → Files → Result State Damage
stands_for flow lot files = behind_kept files (kept_in flow lot files)
