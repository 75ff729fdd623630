-- What the calls of a log ask, and what they leave.
use Rattle.std.specs.Prelude.{◌≡◌, ◌⊎◌, ℕ, ◌+◌, true, false, List, [], ◌∷◌, length, All, Result, OnErr, IsErr}
use Rattle.disk_trait.specs.Faults.{CountsFaults}
use Rattle.disk_trait.specs.Files.{Files}
use Rattle.disk_trait.specs.Images.{After, IsOnly}
use Rattle.disk_trait.specs.declared.file_name.Failed.{Failed}
use Rattle.record_codec.specs.EntryEncoding.{IsEntry}
use Rattle.record_codec.specs.Frames.{entry_frame}
use Rattle.record_codec.specs.declared.entry.LogEntry.{LogEntry}
use Rattle.flowfile_wal.specs.Current.{log_bytes}
use Rattle.flowfile_wal.specs.Steps.{LogState, RestsAt, IsReadyIn, KeepsLog, AddsEntries}

-- all files that a stop may leave are so
abbrev pub InEach : (Files → Type 0) → (Files → Type 0) → Type 0
InEach left P = (c : Files) → left c → P c

-- in all files that a stop may leave, the log of this number and version is at rest, with its last gate at this offset
abbrev pub RestInEach : (number version end : ℕ) → (Files → Type 0) → Type 0
RestInEach number version end left = InEach left (λ c. RestsAt number version end (log_bytes c number))

-- each of these entries, which stand behind their gates' offsets, has an encoding
abbrev pub HaveEncodings : List (ℕ × LogEntry) → Type 0
HaveEncodings entries = All (λ e. IsEntry e.1) entries

-- the end of the log in memory was mended, and no call met a failure of the disk
pub record IsWorkingLog (state : LogState) : Type 0 where
  pub mended : state.mended ≡ true
  pub works : state.failed ≡ false

-- a stop leaves what is held and nothing else, and its current log is the one in memory, which a closed gate ends
pub record LeavesReady (state : LogState) (held : Files) (left : Files → Type 0) : Type 0 where
  pub ready : InEach left (IsReadyIn state)
  pub synced : IsOnly held left

-- one of these files, whose log says what it said; or those that were held, with these entries more in their log
abbrev pub WithOrWithout : ℕ → List LogEntry → (size : ℕ) → (Files → Type 0) → Files → Files → Type 0
WithOrWithout number entries size left held c =
    After (KeepsLog number) left c ⊎ AddsEntries number entries size held c

-- and with this entry alone
abbrev pub WithOrWithoutEntry : ℕ → LogEntry → (Files → Type 0) → Files → Files → Type 0
WithOrWithoutEntry number entry left held c =
    WithOrWithout number (entry ∷ []) (length (entry_frame entry)) left held c

-- the log in memory with a frame of these bytes more
abbrev pub with_frame : LogState → List ℕ → LogState
with_frame state bytes = record state { end = state.end + length bytes }

-- A refusal comes only where the disk's fault count rose, and the log shows it.
pub record LogRefusesOnFault {A : Type 0} (result : Result A Failed) (old new : LogState) (before now : ℕ) : Type 0
  where
    pub shown : OnErr result (new ≡ record old { failed = true })
    pub cause : CountsFaults before now (IsErr result)
