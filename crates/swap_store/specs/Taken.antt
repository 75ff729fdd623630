-- A swap file that is read as far as some block.
use Rattle.std.specs.Prelude.{◌≡◌, ℕ, suc, ◌<◌, ◌≤◌, Bool, true, false, IsTrue, List, length, drop, Option, IfSome, MatchOption, Ok}
use Rattle.disk_trait.specs.Files.{Files}
use Rattle.disk_trait.specs.declared.file_name.FileName.{FileName}
use Rattle.flowfile_record.specs.declared.flow_file.FlowFile.{FlowFile}
use Rattle.block_file.specs.declared.read.BlockAddress.{BlockAddress}
use Rattle.swap_store.specs.Batch.{IsSwapBatch}
use Rattle.swap_store.specs.Memory.{JoinsBatch}
use Rattle.swap_store.specs.Reading.{BatchStep, Adds, Ends, last_file_number, files_from, swapped_files}
use Rattle.swap_store.specs.declared.reading.Source.{Source}
use Rattle.swap_store.specs.declared.taken.Taken.{Taken}

-- what is kept beside the files themselves
pub record AreTakenFiles (taken : Taken) : Type 0 where
  pub batch : IsSwapBatch taken.files.items
  pub last : taken.last ≡ last_file_number taken.files.items

-- the End, or these files
abbrev pub step_is : Bool → List FlowFile → BatchStep
step_is true files = Ends
step_is false files = Adds files

-- the address of the block at an offset of a file of this size
abbrev pub address_in : FileName → (size at : ℕ) → BlockAddress
address_in file size at = record { file = file; size = size; offset = at; at = at }

-- The block at this offset was read, into a buffer of this capacity: it is behind these files, and the next one begins
-- behind it; or it is the End.
pub record HasReadStep (tells : Bool) (files : Files) (source : Source) (at capacity : ℕ) (old new : Taken)
    (next : Option ℕ) : Type 0 where
  pub taken : AreTakenFiles new
  pub within : MatchOption next (Unit {0})
      (λ n. (at < n) × (n ≤ source.size) × (length new.files.items ≡ suc (length old.files.items)))
  pub says : IsTrue tells → (most : ℕ) → MatchOption next
      (files_from (suc most) source.file at old.files.items (drop at (files source.file)) ≡ Ok new.files.items)
      (λ n. files_from (suc most) source.file at old.files.items (drop at (files source.file))
      ≡ files_from most source.file n new.files.items (drop n (files source.file)))
  pub joins : IsTrue tells
      → IfSome next (λ n. JoinsBatch (files source.file) capacity at n old.files.items new.files.items)

-- These files were read. There are bytes that say just these, and where the disk tells they are those of the file.
pub record HasReadBatch (tells : Bool) (files : Files) (file : FileName) (batch : List FlowFile) : Type 0 where
  pub bytes : List ℕ
  pub says : swapped_files file bytes ≡ Ok batch
  pub held : IsTrue tells → bytes ≡ files file
