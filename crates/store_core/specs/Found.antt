-- What is read of a store's files.
use Rattle.std.specs.Prelude.{◌≡◌, ℕ, List, length, Some, Ok}
use Rattle.disk_trait.specs.declared.damage.Damage.{Damage}
use Rattle.disk_trait.specs.declared.damage.Damage.TheVariants.{Form}
use Rattle.disk_trait.specs.declared.file_name.FileName.{FileName}
use Rattle.disk_trait.specs.Files.{Files}
use Rattle.flowfile_wal.specs.Current.{current_log}
use Rattle.flowfile_wal.specs.Steps.{log_with}
use Rattle.record_codec.specs.declared.entry.LogEntry.{LogEntry}
use Rattle.store_core.specs.Flow.{Flow}
use Rattle.store_core.specs.Kept.{kept_in}
use Rattle.store_core.specs.New.{first_stray}
use Rattle.store_core.specs.declared.reading.Found.{Found}

-- the current log of the files with so many entries, and what they keep
pub record StoreIsFoundIn (flow : Flow) (lot : ℕ) (files : Files) (found : Found) : Type 0 where
  pub entries : List (ℕ × LogEntry)
  pub current : current_log files ≡ Ok (log_with found.log entries)
  pub count : found.entries ≡ length entries
  pub kept : kept_in flow lot files ≡ Ok found.state.kept

-- the damage is the first file that a store which isn't made yet doesn't have
pub record IsStrayDamage (files : Files) (damage : Damage) : Type 0 where
  pub file : FileName
  pub stray : first_stray files ≡ Some file
  pub is : damage ≡ Form file 0
