-- What the bytes of a swap file say: the files of the batch, or the first damage. Nothing behind the End is looked at.
use Rattle.std.specs.Prelude.{ℕ, zero, suc, ◌+◌, ◌==◌, ◌&&◌, nat_lt, List, [], ◌∷◌, ◌++◌, length, drop, Option, None, Some, Result, Ok, Err, if◌then◌else◌}
use Rattle.disk_trait.specs.Files.{Files}
use Rattle.disk_trait.specs.declared.damage.Damage.{Damage}
use Rattle.disk_trait.specs.declared.damage.Damage.TheVariants.{Digest, Short, Form}
use Rattle.disk_trait.specs.declared.file_name.FileName.{FileName}
use Rattle.flowfile_record.specs.Reading.{whole}
use Rattle.flowfile_record.specs.declared.flow_file.FlowFile.{FlowFile}
use Rattle.flowfile_record.specs.declared.stored.ActiveFile.{ActiveFile}
use Rattle.record_codec.specs.ActiveFile.{active_file_at}
use Rattle.record_codec.specs.Block.{Reading, Whole, Cut, Long, Differs, reading_of}
use Rattle.record_codec.specs.Snapshot.{kind_code}
use Rattle.record_codec.specs.SnapshotReading.{ending_at}
use Rattle.record_codec.specs.declared.block.TheConstants.{BLOCK_OVERHEAD}
use Rattle.record_codec.specs.declared.snapshot.SnapshotKind.TheVariants as kinds
use Rattle.swap_store.specs.Batch.{swap_file}

-- ---- what a block says behind some files

-- the files with one more, or the End
pub data BatchStep : Type 0 where
  Adds : List FlowFile → BatchStep
  Ends : BatchStep

-- the number of the last of some files, and 0 for none
abbrev pub last_file_number : List FlowFile → ℕ
last_file_number [] = 0
last_file_number (f ∷ []) = f.number
last_file_number (f ∷ g ∷ files) = last_file_number (g ∷ files)

-- a file of no connection, whose number is above those before it
abbrev pub file_step : List FlowFile → Result ActiveFile ℕ → Option BatchStep
file_step files (Ok a) =
    if (a.connection == 0) && nat_lt (last_file_number files) a.file.number then Some (Adds (files ++ a.file ∷ []))
    else None
file_step files (Err left) = None

-- the End says how many blocks stand before it
abbrev pub end_step : List FlowFile → Result ℕ ℕ → Option BatchStep
end_step files (Ok blocks) = if blocks == length files then Some Ends else None
end_step files (Err left) = None

abbrev pub step_in : List FlowFile → ℕ → List ℕ → Option BatchStep
step_in files kind payload =
    if kind == kind_code kinds.File then file_step files (whole active_file_at payload)
    else if kind == kind_code kinds.End then end_step files (whole ending_at payload)
    else None

-- ---- the blocks of a file

abbrev pub Swapped : Type 0
Swapped = Result (List FlowFile) Damage

-- What follows a block of this size, at this offset and behind these files, is asked with the files that there are then
-- and the block's size.
abbrev pub stepped : FileName → (at size : ℕ) → List FlowFile → (List FlowFile → ℕ → Swapped) → Option BatchStep
    → Swapped
stepped file at size files following None = Err (Form file at)
stepped file at size files following (Some (Adds more)) = following more size
stepped file at size files following (Some Ends) = Ok files

abbrev pub past_block : FileName → (at : ℕ) → List FlowFile → (List FlowFile → ℕ → Swapped) → Reading → Swapped
past_block file at files following (Whole kind payload) =
    stepped file at (length payload + BLOCK_OVERHEAD) files following (step_in files kind payload)
past_block file at files following (Cut need have) = Err (Short file at need have)
past_block file at files following (Long size) = Err (Form file at)
past_block file at files following (Differs stored found) = Err (Digest file at stored found)

-- what the blocks from this offset on say behind these files, of which there are no more than this
abbrev pub files_from : (most : ℕ) → FileName → (at : ℕ) → List FlowFile → List ℕ → Swapped
files_from zero file at files bytes = Err (Form file at)
files_from (suc most) file at files bytes =
    past_block file at files (λ more size. files_from most file (at + size) more (drop size bytes)) (reading_of bytes)

-- what the bytes of this file say; no file has more blocks than bytes
abbrev pub swapped_files : FileName → List ℕ → Swapped
swapped_files file bytes = files_from (suc (length bytes)) file 0 [] bytes

-- what the swap file of this batch says
abbrev pub swapped_files_in : Files → ℕ → Swapped
swapped_files_in files batch = swapped_files (swap_file batch) (files (swap_file batch))
