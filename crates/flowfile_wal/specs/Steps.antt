-- What a log holds in memory, and what calls leave of its file.
use Rattle.std.specs.Prelude.{◌≡◌, ◌≢◌, ℕ, ◌+◌, ◌<◌, ◌≤◌, slice_index, Bool, true, IsTrue, List, [], ◌∷◌, ◌++◌, length, take, Option, None, Some, Ok}
use Rattle.std.specs.List.{list_all}
use Rattle.disk_trait.specs.Files.{Files, At, named}
use Rattle.disk_trait.specs.declared.file_name.FileKind.TheVariants.{Log}
use Rattle.record_codec.specs.BlockEntries.{entries_in}
use Rattle.record_codec.specs.EntryEncoding.{IsEntry}
use Rattle.record_codec.specs.Frames.{frame, entry_frame, begun_log, counts}
use Rattle.record_codec.specs.LogEntries.{belongs, gated}
use Rattle.record_codec.specs.Version.{is_known}
use Rattle.record_codec.specs.declared.block.TheConstants.{PAYLOAD_MAX}
use Rattle.record_codec.specs.declared.entry.LogEntry.{LogEntry}
use Rattle.record_codec.specs.declared.entry.LogEntry.TheVariants.{Begin}
use Rattle.record_codec.specs.declared.log.TheConstants.{CLOSED_GATE}
use Rattle.flowfile_wal.specs.Current.{CurrentLog, log_bytes, log_in, current_number, current_log}

-- what is in memory of a log: the number of the current one, the version of its format, the offset of its last gate,
-- whether its end was mended, and whether a call met a failure of the disk
pub record LogState : Type 0 where
  pub number : Option ℕ
  pub version : ℕ
  pub end : ℕ
  pub mended : Bool
  pub failed : Bool

-- the current log with these entries, by what is in memory of it
abbrev pub numbered_log : Option ℕ → (version : ℕ) → List (ℕ × LogEntry) → ℕ → Option CurrentLog
numbered_log None version entries end = None
numbered_log (Some number) version entries end =
    Some (record { number = number; version = version; entries = entries; end = end })

abbrev pub log_with : LogState → List (ℕ × LogEntry) → Option CurrentLog
log_with state entries = numbered_log state.number state.version entries state.end

-- ---- the log's file

-- a step of a log's file that leaves what it says
abbrev pub SameLog : ℕ → List ℕ → List ℕ → Type 0
SameLog number old new = (counts new ≡ counts old) × (log_in number new ≡ log_in number old)

-- these bytes are a log of this number, whose last gate stands at this offset
pub record IsLogAt (number end : ℕ) (bytes : List ℕ) : Type 0 where
  pub version : ℕ
  pub entries : List (ℕ × LogEntry)
  pub counted : counts bytes ≡ true
  pub says : log_in number bytes ≡ Ok (record { number = number; version = version; entries = entries; end = end })

-- the last byte is a closed gate, at this offset
abbrev pub EndsClosed : ℕ → List ℕ → Type 0
EndsClosed end bytes = bytes ≡ take end bytes ++ CLOSED_GATE ∷ []

-- a closed gate stands at this offset
abbrev pub HasClosedGate : ℕ → List ℕ → Type 0
HasClosedGate at bytes = (at < length bytes) × (slice_index bytes at ≡ CLOSED_GATE)

-- these bytes are this log, and a closed gate ends it
pub record IsClosedLog (log : CurrentLog) (bytes : List ℕ) : Type 0 where
  pub counted : counts bytes ≡ true
  pub says : log_in log.number bytes ≡ Ok log
  pub closed : EndsClosed log.end bytes

-- these bytes are a log of this number and version at rest, whose last gate stands at this offset
pub record RestsAt (number version end : ℕ) (bytes : List ℕ) : Type 0 where
  pub entries : List (ℕ × LogEntry)
  pub rests : IsClosedLog (record { number = number; version = version; entries = entries; end = end }) bytes

-- these bytes are the frame of a block with these entries, which may stand behind the Begin of a log of this version
pub record IsFrame (version : ℕ) (entries : List LogEntry) (bytes : List ℕ) : Type 0 where
  pub kind : ℕ
  pub payload : List ℕ
  pub small : length payload ≤ PAYLOAD_MAX
  pub says : entries_in kind payload ≡ Some entries
  pub later : kind ≢ 1
  pub belong : IsTrue (list_all (belongs version) entries)
  pub is : bytes ≡ frame kind payload

-- a log with one block more, of these entries, whose frame has this size
abbrev pub with_block : CurrentLog → List LogEntry → (size : ℕ) → CurrentLog
with_block log entries size = record log {
  entries = log.entries ++ gated log.end entries;
  end = log.end + size;
}

-- and with the block of one entry
abbrev pub with_entry : CurrentLog → LogEntry → CurrentLog
with_entry log entry = with_block log (entry ∷ []) (length (entry_frame entry))

-- a step of a log's file that adds these entries in one frame of this size
abbrev pub MoreEntries : ℕ → List LogEntry → (size : ℕ) → List ℕ → List ℕ → Type 0
MoreEntries number entries size old new = (log : CurrentLog) → log.number ≡ number → IsClosedLog log old
    → IsClosedLog (with_block log entries size) new

-- ---- all files

-- a step that leaves what the log of this number says, and each other file
abbrev pub KeepsLog : ℕ → Files → Files → Type 0
KeepsLog number old new = At (named Log number) (SameLog number) old new

-- a step that adds these entries to the log of this number, in one frame of this size, and leaves each other file
abbrev pub AddsEntries : ℕ → List LogEntry → (size : ℕ) → Files → Files → Type 0
AddsEntries number entries size old new = At (named Log number) (MoreEntries number entries size) old new

-- and one that adds this entry alone
abbrev pub AddsEntry : ℕ → LogEntry → Files → Files → Type 0
AddsEntry number entry old new = AddsEntries number (entry ∷ []) (length (entry_frame entry)) old new

-- the current log of these files is this one, and a closed gate ends it
pub record IsClosedIn (log : CurrentLog) (files : Files) : Type 0 where
  pub current : current_log files ≡ Ok (Some log)
  pub closed : EndsClosed log.end (log_bytes files log.number)

-- the current log of these files is the one in memory
pub record IsCurrentIn (state : LogState) (files : Files) : Type 0 where
  pub entries : List (ℕ × LogEntry)
  pub current : current_log files ≡ Ok (log_with state entries)

-- and a closed gate ends it
pub record IsReadyIn (state : LogState) (files : Files) : Type 0 where
  pub log : CurrentLog
  pub number : state.number ≡ Some log.number
  pub version : state.version ≡ log.version
  pub end : state.end ≡ log.end
  pub ready : IsClosedIn log files

-- the current log of these files has this number and version, and its Begin alone
pub record IsBegunIn (version number : ℕ) (files : Files) : Type 0 where
  pub current : current_number files ≡ Some number
  pub known : IsTrue (is_known version)
  pub encodes : IsEntry (Begin version number)
  pub bytes : log_bytes files number ≡ begun_log version number
