-- Blocks that take memory, by their readings.
use Rattle.std.proofs.Common.{◌≡◌, ◌<◌, ◌+◌, ◌≤◌, ℕ, List, [], ◌∷◌, ◌++◌, length, Result, Ok, Err, Some, sym, ap, ◌∙◌, subst, inl, inr, arith}
use Rattle.disk_trait.specs.Files.{Files}
use Rattle.flowfile_record.specs.Reading.{answer}
use Rattle.flowfile_record.specs.declared.error.CodecError.{CodecError}
use Rattle.flowfile_record.specs.declared.stored.ActiveFile.{ActiveFile}
use Rattle.flowfile_record.specs.declared.flow_file.FlowFile.{FlowFile}
use Rattle.block_file.specs.Address.{HasBlockPast, reading_at}
use Rattle.block_file.specs.declared.read.BlockAddress.{BlockAddress}
use Rattle.record_codec.specs.Block.{Reading, Whole, Cut, Long, Differs}
use Rattle.record_codec.specs.declared.block.TheConstants.{BLOCK_OVERHEAD}
use Rattle.swap_store.specs.Memory.{BatchBlockTakes, BatchPartTakes}
use Rattle.swap_store.specs.Reading.{Adds, file_step}

module _ (longest : ℕ) (files : List FlowFile) (reading : Reading) (kind : ℕ) (payload : List ℕ) (is : reading ≡ Whole kind payload) where
  pub long_takes : longest < length payload + BLOCK_OVERHEAD → BatchBlockTakes longest files reading
  long_takes long = subst (BatchBlockTakes longest files) (sym is) (inl long)

  pub part_takes : BatchPartTakes files kind payload → BatchBlockTakes longest files reading
  part_takes takes = subst (BatchBlockTakes longest files) (sym is) (inr takes)

-- a block past a capacity takes memory
pub past_takes : (held : Files) (address : BlockAddress) (capacity : ℕ) (files : List FlowFile) → HasBlockPast held address capacity → BatchBlockTakes capacity files (reading_at held address)
past_takes held address capacity files past = long_takes capacity files (reading_at held address) past.kind past.payload past.whole past.long

-- what takes memory beside a greater length takes it beside a smaller one
pub less_takes : (longest capacity : ℕ) (files : List FlowFile) (reading : Reading) → longest ≤ capacity → BatchBlockTakes capacity files reading → BatchBlockTakes longest files reading
less_takes longest capacity files (Whole kind payload) le (inl long) = inl (omega (arith, le, long))
less_takes longest capacity files (Whole kind payload) le (inr takes) = inr takes
less_takes longest capacity files (Cut need have) le takes = takes
less_takes longest capacity files (Long size) le takes = takes
less_takes longest capacity files (Differs stored found) le takes = takes

abbrev done : ActiveFile → Result ActiveFile CodecError
done active = Ok active

read_ok : (size : ℕ) (active : ActiveFile) (read : Result ActiveFile ℕ) → done active ≡ answer size read → read ≡ Ok active
read_ok size active (Ok other) e = cc
read_ok size active (Err left) e = absurd cc

-- a file that is read joins as it does
pub file_takes : (files : List FlowFile) (active : ActiveFile) (size : ℕ) (read : Result ActiveFile ℕ) → done active ≡ answer size read
    → file_step files (Ok active) ≡ Some (Adds (files ++ active.file ∷ [])) → (more : List FlowFile) × (file_step files read ≡ Some (Adds more))
file_takes files active size read is joins = (files ++ active.file ∷ [], ap (file_step files) (read_ok size active read is) ∙ joins)
