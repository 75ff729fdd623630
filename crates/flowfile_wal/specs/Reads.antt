-- What the reading of a log finds.
use Rattle.std.specs.Prelude.{◌≡◌, ◌≢◌, ◌⊎◌, ℕ, ◌+◌, ◌<◌, ◌≤◌, true, IsTrue, List, [], ◌∷◌, length, drop, slice_index, Option, None, Some, Result, Ok, Err}
use Rattle.disk_trait.specs.Files.{Files}
use Rattle.disk_trait.specs.declared.damage.Damage.{Damage}
use Rattle.disk_trait.specs.declared.file_name.FileName.{FileName}
use Rattle.record_codec.specs.Block.{Reading, Whole, Cut, Long, Differs, reading_of}
use Rattle.record_codec.specs.BlockEntries.{entries_take_memory}
use Rattle.record_codec.specs.Frames.{counts}
use Rattle.record_codec.specs.LogEntries.{Cause, after, entries_found, log_from, log_of}
use Rattle.record_codec.specs.Version.{is_known}
use Rattle.record_codec.specs.declared.block.TheConstants.{BLOCK_OVERHEAD}
use Rattle.record_codec.specs.declared.entry.LogEntry.{LogEntry}
use Rattle.record_codec.specs.declared.entry.LogEntry.TheVariants.{Begin}
use Rattle.record_codec.specs.declared.log.TheConstants.{OPEN_GATE}
use Rattle.flowfile_wal.specs.Current.{log_bytes, current_number, first_found, caused}
use Rattle.flowfile_wal.specs.declared.current.Candidate.{Candidate}
use Rattle.flowfile_wal.specs.declared.read.FoundBlock.{FoundBlock}

-- the current log's file has this size
pub record IsCandidate (found : Candidate) (files : Files) : Type 0 where
  pub number : current_number files ≡ Some found.number
  pub counted : counts (log_bytes files found.number) ≡ true
  pub size : found.size ≡ length (log_bytes files found.number)

abbrev pub IsFoundIn : Files → Option Candidate → Type 0
IsFoundIn files None = current_number files ≡ None
IsFoundIn files (Some found) = IsCandidate found files

-- the entries of a block that was read and its size, or the damage at the offset of its gate
abbrev pub named_at : FileName → ℕ → Result (List LogEntry × ℕ) Cause → Result (List LogEntry × ℕ) Damage
named_at file at (Ok found) = Ok found
named_at file at (Err cause) = Err (caused file at cause)

-- behind this gate, which is open, stands a block of this size with these entries
pub record AreEntriesAt (at : ℕ) (bytes : List ℕ) (entries : List LogEntry) (size : ℕ) : Type 0 where
  pub opened : slice_index bytes at ≡ OPEN_GATE
  pub behind : at + 1 < length bytes
  pub found : entries_found (reading_of (drop (at + 1) bytes)) ≡ Ok (entries, size)

-- behind this gate, which is open, no entry is read, which is this damage
pub record IsDamagedAt (file : FileName) (at : ℕ) (bytes : List ℕ) (damage : Damage) : Type 0 where
  pub opened : slice_index bytes at ≡ OPEN_GATE
  pub behind : at + 1 < length bytes
  pub found : named_at file at (entries_found (reading_of (drop (at + 1) bytes))) ≡ Err damage

-- this gate is missing, the last byte, or not open
abbrev pub IsLastGate : ℕ → List ℕ → Type 0
IsLastGate at bytes = (length bytes ≤ at + 1) ⊎ (slice_index bytes at ≢ OPEN_GATE)

-- what stands at the gate at this offset
abbrev pub IsNextAt : ℕ → List ℕ → Option FoundBlock → Type 0
IsNextAt at bytes None = IsLastGate at bytes
IsNextAt at bytes (Some found) = AreEntriesAt at bytes found.entries.items found.size

-- the next gate stands within the file
abbrev pub IsNextWithin : ℕ → ℕ → Option FoundBlock → Type 0
IsNextWithin at size None = at ≤ size
IsNextWithin at size (Some found) = at + 1 + found.size ≤ size

-- The log was read as far as this gate: its Begin, of this version, and these entries behind it.
pub record LogIsReadTo (number version end : ℕ) (entries : List (ℕ × LogEntry)) (bytes : List ℕ) : Type 0 where
  pub size : ℕ
  pub first : first_found bytes ≡ Ok (Begin version number ∷ [], size)
  pub known : IsTrue (is_known version)
  pub reads : log_of version bytes
      ≡ after ((0, Begin version number) ∷ entries) (log_from version 0 end (drop end bytes))

-- ---- where memory is taken

-- A block is read into a buffer of this capacity: it is whole, and the buffer too small or its entries take memory.
abbrev pub EntriesTake : ℕ → Reading → Type 0
EntriesTake capacity (Whole kind payload) =
    (capacity < length payload + BLOCK_OVERHEAD) ⊎ IsTrue (entries_take_memory kind payload)
EntriesTake capacity (Cut need have) = ⊥
EntriesTake capacity (Long size) = ⊥
EntriesTake capacity (Differs stored found) = ⊥

-- the first block of a log stands there whole
pub record HasFirstBlock (bytes : List ℕ) : Type 0 where
  pub kind : ℕ
  pub payload : List ℕ
  pub whole : reading_of (drop 1 bytes) ≡ Whole kind payload

-- a log is current, and its first block stands there whole
pub record IsBegunWhole (files : Files) : Type 0 where
  pub number : ℕ
  pub current : current_number files ≡ Some number
  pub first : HasFirstBlock (log_bytes files number)
