-- Blocks that take memory, by their readings.
use Rattle.std.proofs.Common.{◌≡◌, ◌∙◌, ℕ, ◌+◌, ◌<◌, ◌≤◌, true, List, length, subst, sym, ap, inl, inr, is_ok, arith}
use Rattle.disk_trait.specs.Files.{Files}
use Rattle.block_file.specs.Address.{HasBlockPast}
use Rattle.block_file.specs.declared.read.BlockAddress.{BlockAddress}
use Rattle.flowfile_record.specs.Stored.{Kept}
use Rattle.record_codec.specs.Block.{Reading, Whole, reading_of}
use Rattle.record_codec.specs.declared.block.TheConstants.{BLOCK_OVERHEAD}
use Rattle.checkpoint_store.specs.Memory.{BlockTakes, PartTakes, FirstTakes, head_front_at}

module _ (longest : ℕ) (k : Kept) (reading : Reading) (kind : ℕ) (payload : List ℕ) (is : reading ≡ Whole kind payload) where
  pub long_takes : kind ≡ 11 → longest < length payload + BLOCK_OVERHEAD → BlockTakes longest k reading
  long_takes file long = subst (BlockTakes longest k) (sym is) (inl (file, long))

  pub part_takes : PartTakes k kind payload → BlockTakes longest k reading
  part_takes takes = subst (BlockTakes longest k) (sym is) (inr takes)

-- a Head of which the front can be read
pub first_takes : (version : ℕ) (bytes : List ℕ) (kind : ℕ) (payload : List ℕ) → reading_of bytes ≡ Whole kind payload → kind ≡ 10 → is_ok (head_front_at version payload) ≡ true → FirstTakes version bytes
first_takes version bytes kind payload is head front = record { payload = payload; whole = is ∙ ap (λ (n : ℕ). Whole n payload) head; front = front }

-- a block past this size is one past a smaller one
pub past_less : (files : Files) (address : BlockAddress) (a b : ℕ) → b ≤ a → HasBlockPast files address a → HasBlockPast files address b
past_less files address a b less past = record { kind = past.kind; payload = past.payload; whole = past.whole; long = omega (arith, past.long) }
