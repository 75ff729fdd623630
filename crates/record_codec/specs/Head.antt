-- Bytes that may be a whole block, by their header alone.
use Rattle.std.specs.Prelude.{◌≡◌, ℕ, ◌+◌, ◌≤◌, List, length, take}
use Rattle.std.specs.Int.{w32, from_be_bytes}
use Rattle.record_codec.specs.declared.block.TheConstants.{PAYLOAD_MAX, BLOCK_OVERHEAD}

-- the header of these bytes wants a block of so many bytes, and there are as many
pub record IsWholeHead (n : ℕ) (bytes : List ℕ) : Type 0 where
  pub size : n ≡ from_be_bytes w32 (take 4 bytes) + BLOCK_OVERHEAD
  pub short : n ≤ PAYLOAD_MAX + BLOCK_OVERHEAD
  pub whole : n ≤ length bytes
