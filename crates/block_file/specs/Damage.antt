-- What is damaged where no whole block stands in a file.
use Rattle.std.specs.Prelude.{ℕ, Option, None, Some}
use Rattle.disk_trait.specs.declared.damage.Damage.{Damage}
use Rattle.disk_trait.specs.declared.damage.Damage.TheVariants.{Digest, Short, Form}
use Rattle.disk_trait.specs.declared.file_name.FileName.{FileName}
use Rattle.record_codec.specs.Block.{Reading, Whole, Cut, Long, Differs}
use Rattle.record_codec.specs.declared.block.BlockEnd.{BlockEnd}

-- a block's refusal, as damage of a file at an offset
abbrev pub damage_by : FileName → ℕ → BlockEnd → Damage
damage_by file at (BlockEnd.Short need have) = Short file at need have
damage_by file at (BlockEnd.TooLong size) = Form file at
damage_by file at (BlockEnd.Digest stored found) = Digest file at stored found

-- what stands where a block is wanted, as damage of a file at an offset, unless it is a block
abbrev pub damage_in : FileName → ℕ → Reading → Option Damage
damage_in file at (Whole kind payload) = None
damage_in file at (Cut need have) = Some (Short file at need have)
damage_in file at (Long size) = Some (Form file at)
damage_in file at (Differs stored found) = Some (Digest file at stored found)
