-- A log that was just begun, and when one may be.
use Rattle.std.specs.Prelude.{◌≡◌, ◌⊎◌, ℕ, ◌<◌, List, []}
use Rattle.disk_trait.specs.Files.{Files, named}
use Rattle.disk_trait.specs.declared.file_name.FileName.{FileName}
use Rattle.disk_trait.specs.declared.file_name.FileKind.TheVariants as kinds
use Rattle.record_codec.specs.Frames.{begun_log, IsPassedOver}

-- the log of this number
abbrev pub log_file : ℕ → FileName
log_file number = named kinds.Log number

-- files in which the log of this number may be begun: it is empty, and each greater one is passed over
pub record MayBegin (number : ℕ) (files : Files) : Type 0 where
  pub empty : files (log_file number) ≡ []
  pub greater : (n : ℕ) → number < n → IsPassedOver (files (log_file n))

-- files in which the log of this number is current, and was just begun in this version
pub record IsBegun (version number : ℕ) (files : Files) : Type 0 where
  pub begun : files (log_file number) ≡ begun_log version number
  pub greater : (n : ℕ) → number < n → IsPassedOver (files (log_file n))

-- a log before its first gate is opened, or behind it
abbrev pub IsBegunOrNot : (version number : ℕ) → List ℕ → Type 0
IsBegunOrNot version number bytes = IsPassedOver bytes ⊎ (bytes ≡ begun_log version number)
