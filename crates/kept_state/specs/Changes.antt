-- Which entry a change makes, and which changes may be handed in.
use Rattle.std.specs.Prelude.{◌≡◌, ℕ, ◌+◌, ◌<◌, ◌≤◌, ◌^◌, true, zero, suc, List, [], ◌∷◌, length, map, None, if◌then◌else◌}
use Rattle.flowfile_record.specs.Shared.{is_stored}
use Rattle.flowfile_record.specs.Stored.{Kept}
use Rattle.flowfile_record.specs.declared.change.Change.{Change}
use Rattle.flowfile_record.specs.declared.change.Change.TheVariants as change
use Rattle.flowfile_record.specs.declared.change.Settled.{Settled}
use Rattle.flowfile_record.specs.declared.content.ContentRef.{ContentRef}
use Rattle.flowfile_record.specs.declared.event.Event.{Event}
use Rattle.flowfile_record.specs.declared.flow_file.FlowFile.{FlowFile}
use Rattle.flowfile_record.specs.declared.stored.ActiveFile.{ActiveFile}
use Rattle.flowfile_record.specs.declared.stored.Fresh.{Fresh}
use Rattle.flowfile_record.specs.declared.stored.Placed.{Placed}
use Rattle.record_codec.specs.ActiveFile.{active}
use Rattle.record_codec.specs.EntryEncoding.{entry as encoding, IsEntry, IsMoment}
use Rattle.record_codec.specs.Placeless.{placeless}
use Rattle.record_codec.specs.declared.block.TheConstants.{PAYLOAD_MAX}
use Rattle.record_codec.specs.declared.entry.SessionEntry.{SessionEntry}
use Rattle.record_codec.specs.declared.entry.LogEntry.{LogEntry}
use Rattle.record_codec.specs.declared.entry.LogEntry.TheVariants.{Begin, Session, Expire, SwapOut, SwapIn, Age}
use Rattle.kept_state.specs.Applied.{session_applied}
use Rattle.kept_state.specs.Fits.{session_suits, entry_suits}
use Rattle.kept_state.specs.Limits.{numbers_limit}

-- ---- entries

-- a placed file's record: a content that isn't in the store yet stands at offset 0 of slot 0 there until it is
abbrev pub recorded_file : ℕ → FlowFile → Fresh → ActiveFile
recorded_file connection file fresh = active connection (if is_stored fresh then file else placeless file)

abbrev pub record_of : Placed → ActiveFile
record_of p = recorded_file p.connection p.file p.fresh

abbrev pub entry_of_session : Kept → Settled → SessionEntry
entry_of_session k s = record {
  processor = s.processor;
  moment = s.moment;
  gone = s.gone;
  placed = map record_of s.placed;
  next_number = s.next_number;
  next_arrival = s.next_arrival;
  last_event = k.last_event + length s.events;
  generator = s.count;
}

-- the entry that a change makes
abbrev pub entry_of_change : Kept → Change → LogEntry
entry_of_change k (change.Session s) = Session (entry_of_session k s)
entry_of_change k (change.Expire connection moment numbers events) =
    Expire (record {
      connection = connection;
      moment = moment;
      numbers = numbers;
      last_event = k.last_event + length events;
    })
entry_of_change k (change.SwapOut connection batch numbers) =
    SwapOut (record { connection = connection; batch = batch; numbers = numbers })
entry_of_change k (change.SwapIn connection batch files) = SwapIn connection batch
entry_of_change k (change.Age line) = Age line

-- the files that an entry places
abbrev pub placed_in : LogEntry → List ActiveFile
placed_in (Session s) = s.placed
placed_in _ = []

-- the active file, its content standing there
abbrev pub at_content : ContentRef → ActiveFile → ActiveFile
at_content at a = record {
  connection = a.connection;
  file = record {
    number = a.file.number;
    attributes = a.file.attributes;
    content = at;
    entered = a.file.entered;
    penalty_end = a.file.penalty_end;
    arrival = a.file.arrival;
  };
}

-- the files, that at this place having its content there
abbrev pub with_content_at : ℕ → ContentRef → List ActiveFile → List ActiveFile
with_content_at place at [] = []
with_content_at zero at (a ∷ files) = at_content at a ∷ files
with_content_at (suc place) at (a ∷ files) = a ∷ with_content_at place at files

-- the entry, the content of its placed file at this place standing there
abbrev pub entry_with_content : LogEntry → ℕ → ContentRef → LogEntry
entry_with_content (Session s) place at = Session (record s { placed = with_content_at place at s.placed })
entry_with_content (Expire e) place at = Expire e
entry_with_content (SwapOut s) place at = SwapOut s
entry_with_content (SwapIn connection batch) place at = SwapIn connection batch
entry_with_content (Begin version log) place at = Begin version log
entry_with_content (Age line) place at = Age line

-- a content of this size and digest is that of the file at this place
abbrev pub HasContentLike : ContentRef → ℕ → List ActiveFile → Type 0
HasContentLike at place [] = ⊥
HasContentLike at zero (a ∷ files) = (at.size ≡ a.file.content.size) × (at.digest ≡ a.file.content.digest)
HasContentLike at (suc place) (a ∷ files) = HasContentLike at place files

-- ---- what may be handed in

-- no file of a batch: no batch is swapped out
abbrev pub no_files : ℕ → List FlowFile
no_files batch = []

-- a settled session whose entry fits, but that it may pass a limit, and has an encoding unless it passes that of
-- numbers
pub record MaySettleAs (k : Kept) (s : Settled) : Type 0 where
  pub suits : session_suits no_files k (entry_of_session k s) ≡ true
  pub gone : length s.gone < 2 ^ 32
  pub placed : length s.placed < 2 ^ 32
  pub events : length s.events < 2 ^ 32
  pub encoded : numbers_limit (session_applied k (entry_of_session k s)) ≡ None
      → IsEntry (Session (entry_of_session k s))
  pub payload : length (encoding (Session (entry_of_session k s))) ≤ PAYLOAD_MAX

-- ---- files that expire

-- files that expire at a moment, each with its event, as a settled session: it takes them and places none, and what
-- comes next stays
abbrev pub settled_of_expiry : Kept → (moment : ℕ) → (numbers : List ℕ) → List Event → Settled
settled_of_expiry k moment numbers events = record {
  processor = 0;
  moment = moment;
  gone = numbers;
  placed = [];
  events = events;
  next_number = k.next_number;
  next_arrival = k.next_arrival;
  count = None;
}

-- the entry of the files of a connection that expire as this settled session
abbrev pub expiry_entry : Kept → (connection : ℕ) → Settled → LogEntry
expiry_entry k connection s = entry_of_change k (change.Expire connection s.moment s.gone s.events)

-- files of a connection may expire as this settled session: their entry fits
pub record MayExpireAs (k : Kept) (connection : ℕ) (s : Settled) : Type 0 where
  pub as_session : s ≡ settled_of_expiry k s.moment s.gone s.events
  pub moment : IsMoment s.moment
  pub fits : entry_suits no_files k (expiry_entry k connection s) ≡ true
