-- The room of an output.
use Rattle.std.specs.Prelude.{◌≡◌, ◌+◌, ◌≤◌, vec_len, vec_capacity}
use Rattle.record_codec.specs.declared.block.TheConstants.{PAYLOAD_MAX, BLOCK_OVERHEAD}
use Rattle.checkpoint_store.specs.declared.output.Output.{Output}
use Rattle.checkpoint_store.specs.declared.output.TheConstants.{PIECE_SIZE, FILE_PAYLOAD_MAX}

-- there is room for a piece and the longest block behind it, and for the longest payload
pub record OutputHasRoom (out : Output) : Type 0 where
  pub files : FILE_PAYLOAD_MAX ≤ out.longest
  pub block : out.longest ≤ PAYLOAD_MAX
  pub payload : out.longest ≤ vec_capacity out.payload
  pub piece : PIECE_SIZE + out.longest + BLOCK_OVERHEAD ≤ vec_capacity out.piece

-- and the piece has at most its size
abbrev pub HasFreeRoom : Output → Type 0
HasFreeRoom out = OutputHasRoom out × (vec_len out.piece ≤ PIECE_SIZE)

-- the same but for the piece and the payload
pub record SameBut (old new : Output) : Type 0 where
  pub file : new.file ≡ old.file
  pub offset : new.offset ≡ old.offset
  pub longest : new.longest ≡ old.longest
