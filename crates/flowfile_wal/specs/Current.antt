-- Which log is current among files, and what it says.
use Rattle.std.specs.Prelude.{ℕ, ◌==◌, ◌&&◌, ◌^◌, List, [], ◌∷◌, drop, Option, None, Some, Result, Ok, Err, if◌then◌else◌}
use Rattle.disk_trait.specs.Files.{Files, named}
use Rattle.disk_trait.specs.Search.{greatest_below}
use Rattle.disk_trait.specs.declared.damage.Damage.{Damage}
use Rattle.disk_trait.specs.declared.damage.Damage.TheVariants.{Digest, Short, Form}
use Rattle.disk_trait.specs.declared.file_name.FileKind.TheVariants.{Log}
use Rattle.disk_trait.specs.declared.file_name.FileName.{FileName}
use Rattle.record_codec.specs.Block.{reading_of}
use Rattle.record_codec.specs.Frames.{counts}
use Rattle.record_codec.specs.LogEntries.{Cause, LogRead, LogDamage, entries_found, log_of}
use Rattle.record_codec.specs.Version.{is_known}
use Rattle.record_codec.specs.declared.entry.LogEntry.{LogEntry}
use Rattle.record_codec.specs.declared.entry.LogEntry.TheVariants.{Begin, Session, Expire, SwapOut, SwapIn, Age}

-- a log: its number, the version of its format, the entries behind its Begin in order, each with the offset of its
-- gate, and the offset of its last gate
pub record CurrentLog : Type 0 where
  pub number : ℕ
  pub version : ℕ
  pub entries : List (ℕ × LogEntry)
  pub end : ℕ

-- the bytes of the log of this number
abbrev pub log_bytes : Files → ℕ → List ℕ
log_bytes files number = files (named Log number)

-- the greatest log that isn't passed over
unfoldable pub current_number : Files → Option ℕ
current_number files = greatest_below (λ n. counts (log_bytes files n)) (2 ^ 64)

-- what is read of the first block: its entries, and its size
abbrev pub first_found : List ℕ → Result (List LogEntry × ℕ) Cause
first_found bytes = entries_found (reading_of (drop 1 bytes))

-- the version of an entry that is the Begin of this number, where it counts
abbrev pub begun_by : ℕ → LogEntry → Option ℕ
begun_by number (Begin version log) = if (log == number) && is_known version then Some version else None
begun_by number (Session s) = None
begun_by number (Expire e) = None
begun_by number (SwapOut s) = None
begun_by number (SwapIn connection batch) = None
begun_by number (Age line) = None

-- the version of a log whose first block has these entries: it is the Begin alone
abbrev pub version_begun : ℕ → List LogEntry → Option ℕ
version_begun number [] = None
version_begun number (entry ∷ []) = begun_by number entry
version_begun number (entry ∷ other ∷ more) = None

-- a cause, as damage of a file at an offset
abbrev pub caused : FileName → ℕ → Cause → Damage
caused file at (Cause.Digest stored found) = Digest file at stored found
caused file at (Cause.Short need have) = Short file at need have
caused file at Cause.Form = Form file at

-- what was read of a log of this version that begins with its number
abbrev pub log_read : (number version : ℕ) → Result LogRead LogDamage → Result CurrentLog Damage
log_read number version (Ok read) =
    Ok (record { number = number; version = version; entries = drop 1 read.entries; end = read.end })
log_read number version (Err damage) = Err (caused (named Log number) damage.at damage.cause)

-- a log of this version, or one whose first block isn't the Begin
abbrev pub log_by : ℕ → List ℕ → Option ℕ → Result CurrentLog Damage
log_by number bytes (Some version) = log_read number version (log_of version bytes)
log_by number bytes None = Err (Form (named Log number) 0)

-- Where nothing is read of the first block, its own damage is told.
abbrev pub log_begun : ℕ → List ℕ → Result (List LogEntry × ℕ) Cause → Result CurrentLog Damage
log_begun number bytes (Ok found) = log_by number bytes (version_begun number found.0)
log_begun number bytes (Err cause) = Err (caused (named Log number) 0 cause)

-- what the bytes of the log of this number say, or their first damage
unfoldable pub log_in : ℕ → List ℕ → Result CurrentLog Damage
log_in number bytes = log_begun number bytes (first_found bytes)

abbrev pub of_some : Result CurrentLog Damage → Result (Option CurrentLog) Damage
of_some (Ok log) = Ok (Some log)
of_some (Err damage) = Err damage

abbrev pub log_of_number : Files → Option ℕ → Result (Option CurrentLog) Damage
log_of_number files None = Ok None
log_of_number files (Some number) = of_some (log_in number (log_bytes files number))

-- the current log of files, none where every log is passed over, or its first damage
unfoldable pub current_log : Files → Result (Option CurrentLog) Damage
current_log files = log_of_number files (current_number files)
