-- How the head of a snapshot is encoded, and which heads have an encoding. Numbers are big-endian.
use Rattle.std.specs.Prelude.{◌≡◌, ℕ, ◌<◌, ◌≤◌, ◌%◌, ◌==◌, IsTrue, List, [], ◌++◌, if◌then◌else◌}
use Rattle.std.specs.Int.{w64, to_be_bytes}
use Rattle.flowfile_record.specs.Encoding.{byte, numbers, IsNumber, AreNumbers, IsDigest}
use Rattle.flowfile_record.specs.declared.stored.Stored.{Stored}
use Rattle.flowfile_record.specs.declared.limits.TheConstants.{STORE_LIMIT, EVENTS_PER_FILE}
use Rattle.record_codec.specs.Version.{is_version}
use Rattle.record_codec.specs.declared.TheConstants.{FIRST_VERSION, SECOND_VERSION}
use Rattle.record_codec.specs.declared.head.Head.{Head}
use Rattle.record_codec.specs.Texts.{texts, AreTexts}

-- a field that the second version alone has
abbrev pub in_second : (version : ℕ) → List ℕ → List ℕ
in_second version field = if version == SECOND_VERSION then field else []

unfoldable pub head : Head → List ℕ
head h =
    byte h.version ++ to_be_bytes w64 h.store ++ h.flow ++ texts h.connections
    ++ in_second h.version (texts h.processors) ++ numbers h.counts ++ to_be_bytes w64 h.next_number
    ++ to_be_bytes w64 h.next_arrival ++ to_be_bytes w64 h.last_event
    ++ in_second h.version (to_be_bytes w64 h.line) ++ to_be_bytes w64 h.next_batch

-- the head of what is stored
abbrev pub head_of : (version : ℕ) → Stored → Head
head_of version s = record {
  version = version;
  store = s.store;
  flow = s.flow;
  connections = s.connections;
  processors = s.processors;
  counts = s.counts;
  next_number = s.next_number;
  next_arrival = s.next_arrival;
  last_event = s.last_event;
  line = s.line;
  next_batch = s.next_batch;
}

-- events have aged out by whole files, and not past the last one
abbrev pub IsLineOf : (last_event line : ℕ) → Type 0
IsLineOf last_event line = (line % EVENTS_PER_FILE ≡ 0) × (line ≤ last_event)

-- a head that has an encoding: in the first version it has no processors and the line 0
pub record IsHead (h : Head) : Type 0 where
  pub version : IsTrue (is_version h.version)
  pub store : h.store < STORE_LIMIT
  pub flow : IsDigest h.flow
  pub connections : AreTexts h.connections
  pub processors : AreTexts h.processors
  pub counts : AreNumbers h.counts
  pub next_number : IsNumber h.next_number
  pub next_arrival : IsNumber h.next_arrival
  pub last_event : IsNumber h.last_event
  pub line : IsLineOf h.last_event h.line
  pub next_batch : IsNumber h.next_batch
  pub first : h.version ≡ FIRST_VERSION → (h.processors ≡ []) × (h.line ≡ 0)
