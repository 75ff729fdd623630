-- What is in memory of the files of events, and how it is tied to them.
use Rattle.std.specs.Prelude.{◌≡◌, ◌≢◌, ℕ, ◌+◌, ◌-◌, ◌/◌, ◌<◌, ◌≤◌, ◌==◌, ◌%◌, Bool, IsTrue, List, [], length, map, filter, take, All, Contains, Ok, slice_index, if◌then◌else◌}
use Rattle.std.specs.List.{range_with_len, AllPairs}
use Rattle.disk_trait.specs.Files.{Files, Shortened}
use Rattle.disk_trait.specs.declared.file_name.FileKind.TheVariants.{Events}
use Rattle.disk_trait.specs.declared.file_name.FileName.{FileName}
use Rattle.disk_trait.specs.Images.{After, Since, HasCalled, calls_later}
use Rattle.flowfile_record.specs.Events.{code_of}
use Rattle.flowfile_record.specs.declared.event.Event.{Event}
use Rattle.prov_event.specs.Encoding.{event, IsEvent}
use Rattle.prov_event.specs.declared.TheConstants.{EVENT_KIND}
use Rattle.prov_store.specs.Events.{events_file, events_in, covered_bytes, covered_size}
use Rattle.flowfile_record.specs.declared.limits.TheConstants.{EVENTS_PER_FILE}
use Rattle.prov_store.specs.declared.events.Stale.{Stale}
use Rattle.record_codec.specs.Block.{block}
use Rattle.record_codec.specs.declared.block.TheConstants.{PAYLOAD_MAX}

-- ---- events

-- an event that has a block
pub record HasBlock (e : Event) : Type 0 where
  pub encoded : IsEvent e
  pub payload : length (event e) ≤ PAYLOAD_MAX

-- the block of an event
abbrev pub event_block : Event → List ℕ
event_block e = block EVENT_KIND (event e)

-- numbered from this one on, without a gap
abbrev pub AreNumberedFrom : (first : ℕ) → List Event → Type 0
AreNumberedFrom first events = map (λ e. e.number) events ≡ range_with_len first (length events)

-- how many of the events are of the kind of this code
abbrev pub count_of_code : (code : ℕ) → List Event → ℕ
count_of_code code events = length (filter (λ e. code_of e.kind == code) events)

-- how many of the events are of each kind, by its code less 1
unfoldable pub counts_of : List Event → List ℕ
counts_of events = map (λ code. count_of_code code events) (range_with_len 1 12)

-- ---- in memory

-- The line, up to which events are forgotten; the number of the last event; where the next one goes in its file; how
-- many past the line there are of each kind; and the files that have bytes behind what is covered, each with the size
-- of that.
pub record EventsState : Type 0 where
  pub line : ℕ
  pub end : ℕ
  pub offset : ℕ
  pub counts : List ℕ
  pub stale : List Stale

-- events to be added, and the number of the first
pub record NumberedEvents : Type 0 where
  pub first : ℕ
  pub events : List Event

-- a line that events up to a last one may have: the files before it are whole
pub record IsEventLine (line last : ℕ) : Type 0 where
  pub whole : line % EVENTS_PER_FILE ≡ 0
  pub within : line ≤ last

-- the file that the next event goes to
abbrev pub next_file : (last : ℕ) → ℕ
next_file last = last / EVENTS_PER_FILE

-- the files have the events that are known
pub record HasEvents (state : EventsState) (files : Files) : Type 0 where
  pub events : List Event
  pub says : events_in files state.line state.end ≡ Ok events
  pub offset : state.offset ≡ covered_size state.line state.end (next_file state.end) files
  pub counts : state.counts ≡ counts_of events

-- the files that have bytes behind what is covered are known
pub record HasStale (state : EventsState) (files : Files) : Type 0 where
  pub sizes : All (λ s. s.size ≡ covered_size state.line state.end s.file files) state.stale
  pub others : (k : ℕ) → (Contains (map (λ s. s.file) state.stale) k → ⊥)
      → files (events_file k) ≡ covered_bytes state.line state.end k files

-- files are listed once each, ascending, and each is longer than its size in the list
pub record AreLonger (tells : Bool) (files : Files) (stale : List Stale) : Type 0 where
  pub ascending : AllPairs (λ s t. s.file < t.file) stale
  pub longer : IsTrue tells → All (λ s. s.size < length (files (events_file s.file))) stale

-- nothing stands in the files before the line and behind the last event
abbrev pub IsTrimmed : (line last : ℕ) → Files → Type 0
IsTrimmed line last files = (k : ℕ) → files (events_file k) ≡ covered_bytes line last k files

-- the files have the events that are known, and nothing else
pub record EventsAreReady (state : EventsState) (files : Files) : Type 0 where
  pub has : HasEvents state files
  pub trimmed : IsTrimmed state.line state.end files

-- ---- what calls leave

-- the bytes of the events past a line and up to a last one stay
abbrev pub SameEvents : (line last : ℕ) (old new : Files) → Type 0
SameEvents line last old new = (k : ℕ) → covered_bytes line last k new ≡ covered_bytes line last k old

-- and each file of another kind is as it was
pub record KeepsEvents (line last : ℕ) (old new : Files) : Type 0 where
  pub others : (f : FileName) → f.kind ≢ Events → new f ≡ old f
  pub events : SameEvents line last old new

-- files of events grow, behind the last event that is known
pub record GrowsBehind (state : EventsState) (old new : Files) : Type 0 where
  pub others : (f : FileName) → f.kind ≢ Events → new f ≡ old f
  pub earlier : (k : ℕ) → k < next_file state.end → new (events_file k) ≡ old (events_file k)
  pub front : take state.offset (new (events_file (next_file state.end)))
      ≡ take state.offset (old (events_file (next_file state.end)))
  pub no_shorter : (k : ℕ) → length (old (events_file k)) ≤ length (new (events_file k))

-- files that are known to have bytes behind what is covered get shorter, down to that
pub record CutsStale (stale : List Stale) (old new : Files) : Type 0 where
  pub others : (f : FileName) → f.kind ≢ Events → new f ≡ old f
  pub rest : (k : ℕ) → (Contains (map (λ s. s.file) stale) k → ⊥) → new (events_file k) ≡ old (events_file k)
  pub cut : All (λ s. Shortened s.size (old (events_file s.file)) (new (events_file s.file))) stale

-- the files of these numbers, in which nothing is covered
abbrev pub uncovered : List ℕ → List Stale
uncovered numbers = map (λ k. record { file = k; size = 0 }) numbers

-- the files between two lines, in which nothing is covered once the later one counts
abbrev pub files_between : (line later : ℕ) → List Stale
files_between line later =
    uncovered (range_with_len (line / EVENTS_PER_FILE) (later / EVENTS_PER_FILE - line / EVENTS_PER_FILE))

-- From a call's start on files change by such a step alone: those that are held, and whatever a stop leaves.
pub record ChangesBy {D : Type 0} (tells : Bool) (held : D → Files) (moment : D → ℕ) (images : D → ℕ → Files → Type 0)
    (step : Files → Files → Type 0) (old new : D) : Type 0 where
  pub files : IsTrue tells → step (held old) (held new)
  pub left : Since moment images old new (After step (images old (moment old)))

-- ---- what is known once events are added

-- the counts of some more events
abbrev pub AreCounted : List Event → (old new : List ℕ) → Type 0
AreCounted events old new = (code : ℕ) → 1 ≤ code → code ≤ 12
    → slice_index new (code - 1) ≡ slice_index old (code - 1) + count_of_code code events

pub record EventsAreAppended (events : List Event) (old new : EventsState) : Type 0 where
  pub line : new.line ≡ old.line
  pub end : new.end ≡ old.end + length events
  pub counts : AreCounted events old.counts new.counts
  pub stale : new.stale ≡ old.stale

-- no count is higher
pub record AreFewer (old new : List ℕ) : Type 0 where
  pub long : length new ≡ length old
  pub fewer : (i : ℕ) → slice_index new i ≤ slice_index old i

-- how many files get events where so many are added behind a last one
abbrev pub files_for : (last count : ℕ) → ℕ
files_for last count =
    if count == 0 then 0 else (last + count - 1) / EVENTS_PER_FILE - last / EVENTS_PER_FILE + 1

-- ---- what the answers of calls say

-- These are the events past a line and up to a last one that the files have, with the files that are longer than what
-- is covered.
pub record IsFoundOn (tells : Bool) (files : Files) (past last : ℕ) (state : EventsState) : Type 0 where
  pub line : state.line ≡ past
  pub end : state.end ≡ last
  pub has : IsTrue tells → HasEvents state files
  pub stale : IsTrue tells → HasStale state files
  pub longer : AreLonger tells files state.stale

-- The events are known and stand in the files with nothing behind them, by one write for each file that got some.
pub record HasAppended {D : Type 0} (tells : Bool) (held : D → Files) (moment : D → ℕ) (events : List Event)
    (s_old s_new : EventsState) (old new : D) : Type 0 where
  pub ready : IsTrue tells → EventsAreReady s_new (held new)
  pub state : EventsAreAppended events s_old s_new
  pub writes : moment new ≡ calls_later (files_for s_old.end (length events)) (moment old)

-- Nothing stands behind what is covered any more, by one cut for each file that was longer.
pub record HasTrimmed {D : Type 0} (tells : Bool) (held : D → Files) (moment : D → ℕ) (s_old s_new : EventsState)
    (old new : D) : Type 0 where
  pub ready : IsTrue tells → EventsAreReady s_new (held new)
  pub state : s_new ≡ record s_old { stale = [] }
  pub cuts : moment new ≡ calls_later (length s_old.stale) (moment old)

-- The events up to a line are forgotten, and the others stand in the files with nothing else: their files are cut, by
-- one call each.
pub record HasAged {D : Type 0} (tells : Bool) (held : D → Files) (moment : D → ℕ) (line : ℕ)
    (s_old s_new : EventsState) (old new : D) : Type 0 where
  pub ready : IsTrue tells → EventsAreReady s_new (held new)
  pub state : s_new ≡ record s_old { line = line; counts = s_new.counts }
  pub counts : AreFewer s_old.counts s_new.counts
  pub cuts : moment new ≡ calls_later ((line - s_old.line) / EVENTS_PER_FILE) (moment old)

-- at most so many calls were made that change something
pub record HasCalledAtMost (limit before now : ℕ) : Type 0 where
  pub calls : ℕ
  pub most : calls ≤ limit
  pub moment : now ≡ calls_later calls before

-- An aging refused: what is in memory is as it was, and at most so many files were cut.
pub record HasNotAged (line : ℕ) (s_old s_new : EventsState) (before now : ℕ) : Type 0 where
  pub unchanged : s_new ≡ s_old
  pub called : HasCalledAtMost ((line - s_old.line) / EVENTS_PER_FILE) before now

-- A call refused: what is in memory is as it was, and of so many calls at least one was made.
pub record HasRefused (limit : ℕ) (s_old s_new : EventsState) (before now : ℕ) : Type 0 where
  pub unchanged : s_new ≡ s_old
  pub called : HasCalled limit before now
