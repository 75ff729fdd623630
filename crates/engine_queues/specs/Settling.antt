-- How the queues of a flow change with a session that is checked out, given back or committed, and with files that
-- expire.
use Rattle.std.specs.Prelude.{◌≡◌, ℕ, ◌+◌, ◌-◌, ◌<◌, ◌≤◌, ◌==◌, zero, suc, false, true, not, Bool, List, [], ◌∷◌, length, map, count_by, All, Some, IsSome, slice_get}
use Rattle.std.specs.Option.{option_map_or}
use Rattle.flowfile_record.specs.Stored.{Kept}
use Rattle.flowfile_record.specs.declared.change.Change.TheVariants as change
use Rattle.flowfile_record.specs.declared.change.Settled.{Settled}
use Rattle.flowfile_record.specs.declared.content.ContentRef.{ContentRef}
use Rattle.flowfile_record.specs.declared.flow_file.FlowFile.{FlowFile}
use Rattle.flowfile_record.specs.declared.stored.ActiveFile.{ActiveFile}
use Rattle.flowfile_record.specs.declared.stored.Placed.{Placed}
use Rattle.record_codec.specs.ActiveFile.{active}
use Rattle.record_codec.specs.Placeless.{placeless_entry}
use Rattle.record_codec.specs.declared.entry.LogEntry.{LogEntry}
use Rattle.checkpoint_store.specs.Consistent.{IsConsistent}
use Rattle.kept_state.specs.Applied.{applied}
use Rattle.kept_state.specs.Changes.{entry_of_change, at_content, no_files, MaySettleAs}
use Rattle.kept_state.specs.Fits.{active_of, are_active_in, are_distinct_numbers}
use Rattle.machine_model.specs.declared.flow.Flow.{Flow}
use Rattle.flow_queue.specs.Queue.{QueueState, queue_with_file, without_file, flight_of, with_flight, IsApart}
use Rattle.flow_queue.specs.declared.held.Held.{Held}
use Rattle.engine_queues.specs.Beside.{is_out}
use Rattle.engine_queues.specs.Queues.{AreQueuesOf}

-- ---- what is known before

-- The queues are those of what is kept, and a session may be settled there, whichever live files are out.
pub record MaySettleOver (flow : Flow) (k : Kept) (out : List ℕ) (settled : Settled) (queues : List QueueState)
    : Type 0 where
  pub of_kept : AreQueuesOf flow k out queues
  pub live : All (λ number. IsSome (active_of number k.files)) out
  pub connections : length k.connections ≡ length flow.connections
  pub consistent : IsConsistent k
  pub no_batches : k.batches ≡ []
  pub may : MaySettleAs k settled

-- What is kept after the session: its new contents stand somewhere. The files that are gone were in this connection.
pub record IsKeptAfter (k : Kept) (connection : ℕ) (settled : Settled) (after : Kept) : Type 0 where
  pub active : are_active_in k.files connection settled.gone ≡ true
  pub entry : LogEntry
  pub same : placeless_entry entry ≡ placeless_entry (entry_of_change k (change.Session settled))
  pub kept : after ≡ applied no_files k entry

-- The queues are those of what is kept, and the files of these numbers are active in this connection; all of them are
-- out, or none is.
pub record AreInQueue (flow : Flow) (k : Kept) (out : List ℕ) (are_out : Bool) (connection : ℕ) (numbers : List ℕ)
    (queues : List QueueState) : Type 0 where
  pub of_kept : AreQueuesOf flow k out queues
  pub connections : length k.connections ≡ length flow.connections
  pub consistent : IsConsistent k
  pub distinct : are_distinct_numbers numbers ≡ true
  pub active : are_active_in k.files connection numbers ≡ true
  pub flights : All (λ number. is_out out number ≡ are_out) numbers

-- sessions may take these files, or they may expire: none of them is in flight
abbrev pub MayTakeFrom : Flow → Kept → (out : List ℕ) → (connection : ℕ) → (numbers : List ℕ) → List QueueState →
    Type 0
MayTakeFrom flow k out connection numbers queues = AreInQueue flow k out false connection numbers queues

-- a session that took these files may give them back
abbrev pub MayGiveBack : Flow → Kept → (out : List ℕ) → (connection : ℕ) → (numbers : List ℕ) → List QueueState →
    Type 0
MayGiveBack flow k out connection numbers queues = AreInQueue flow k out true connection numbers queues

-- each queue has room for the files that go into its connection, which are placed into these connections
pub record HasRoomIn (connections : List ℕ) (queues : List QueueState) : Type 0 where
  pub each : (place : ℕ) (queue : QueueState) → slice_get queues place ≡ Some queue
      → count_by (λ connection. connection == place) connections ≤ queue.spare

-- the connections that the files of a session are placed into
abbrev pub placed_connections : Settled → List ℕ
placed_connections settled = map (λ placed. placed.connection) settled.placed

-- each queue has room for the files that a session places into it
abbrev pub HasRoomFor : Settled → List QueueState → Type 0
HasRoomFor settled queues = HasRoomIn (placed_connections settled) queues

-- the queue but for its room
abbrev pub without_room : QueueState → QueueState
without_room queue = record queue { spare = 0; batch_room = false }

-- the file, and the queue, but for what is in flight
abbrev pub as_at_rest : Held → Held
as_at_rest held = record held { in_flight = false }

abbrev pub without_flights : QueueState → QueueState
without_flights queue = record queue { files = map as_at_rest queue.files }

-- ---- files are taken and given back

-- the queues, that at a place changed
abbrev pub changed_at : ℕ → (QueueState → QueueState) → List QueueState → List QueueState
changed_at place change [] = []
changed_at zero change (queue ∷ queues) = change queue ∷ queues
changed_at (suc place) change (queue ∷ queues) = queue ∷ changed_at place change queues

abbrev pub queue_marked : (in_flight : Bool) → ℕ → QueueState → QueueState
queue_marked in_flight number queue = record queue { files = with_flight number in_flight queue.files }

-- the queues, that at a place with the files of these numbers in flight, or at rest
abbrev pub queues_marked : (in_flight : Bool) → ℕ → List ℕ → List QueueState → List QueueState
queues_marked in_flight place [] queues = queues
queues_marked in_flight place (number ∷ numbers) queues =
    queues_marked in_flight place numbers (changed_at place (queue_marked in_flight number) queues)

-- the queue at a place has a file of this number, which is in flight, or at rest
pub record HasFlight (in_flight : Bool) (place number : ℕ) (queues : List QueueState) : Type 0 where
  pub within : place < length queues
  pub there : (queue : QueueState) → slice_get queues place ≡ Some queue → flight_of number queue.files ≡ Some in_flight

-- when the turn of each of these comes it is at rest, and may be marked as in flight; or the other way round
abbrev pub MayBeMarked : (in_flight : Bool) → ℕ → List ℕ → List QueueState → Type 0
MayBeMarked in_flight place [] queues = Unit {0}
MayBeMarked in_flight place (number ∷ numbers) queues =
    HasFlight (not in_flight) place number queues
    × MayBeMarked in_flight place numbers (changed_at place (queue_marked in_flight number) queues)

-- ---- files leave

abbrev pub queue_without : ℕ → QueueState → QueueState
queue_without number queue = record queue { files = without_file number queue.files; spare = queue.spare + 1 }

-- the queues, that at a place without the files of these numbers
abbrev pub queues_without : ℕ → List ℕ → List QueueState → List QueueState
queues_without place [] queues = queues
queues_without place (number ∷ numbers) queues =
    queues_without place numbers (changed_at place (queue_without number) queues)

-- the queue at a place has a file of this number
pub record HasFile (place number : ℕ) (queues : List QueueState) : Type 0 where
  pub within : place < length queues
  pub there : (queue : QueueState) → slice_get queues place ≡ Some queue → IsSome (flight_of number queue.files)

-- it has a file of each number, when that one's turn comes
abbrev pub HasFiles : ℕ → List ℕ → List QueueState → Type 0
HasFiles place [] queues = Unit {0}
HasFiles place (number ∷ numbers) queues =
    HasFile place number queues × HasFiles place numbers (changed_at place (queue_without number) queues)

-- ---- files join

abbrev pub queue_with : FlowFile → QueueState → QueueState
queue_with file queue = record queue { files = queue_with_file file queue.files; spare = queue.spare - 1 }

-- the queues, each with the files that are active in its connection
abbrev pub queues_with : List ActiveFile → List QueueState → List QueueState
queues_with [] queues = queues
queues_with (a ∷ files) queues = queues_with files (changed_at a.connection (queue_with a.file) queues)

-- the queue of its connection has room for the file, and no file of its number or its arrival
pub record MayJoin (a : ActiveFile) (queues : List QueueState) : Type 0 where
  pub within : a.connection < length queues
  pub room : (queue : QueueState) → slice_get queues a.connection ≡ Some queue → 0 < queue.spare
  pub apart : (queue : QueueState) → slice_get queues a.connection ≡ Some queue → IsApart a.file queue.files

-- each file may join, when its turn comes
abbrev pub MayAllJoin : List ActiveFile → List QueueState → Type 0
MayAllJoin [] queues = Unit {0}
MayAllJoin (a ∷ files) queues =
    MayJoin a queues × MayAllJoin files (changed_at a.connection (queue_with a.file) queues)

-- the reference of the content of a file, as these active files have it
abbrev pub active_content : List ActiveFile → FlowFile → ContentRef
active_content files file = option_map_or (λ a. a.file.content) (active_of file.number files) file.content

-- the placed file, its content standing where these active files say
abbrev pub as_kept : List ActiveFile → Placed → ActiveFile
as_kept files placed = at_content (active_content files placed.file) (active placed.connection placed.file)
