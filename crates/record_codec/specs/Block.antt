-- Blocks: how a payload is encoded in a file of the store, and what stands in front of some bytes.
use Rattle.std.specs.Prelude.{ℕ, ◌+◌, ◌≤◌, nat_lt, List, ◌∷◌, ◌++◌, length, take, drop, slice_index, bytes_eq, Result, Ok, Err, if◌then◌else◌}
use Rattle.std.specs.Int.{w32, from_be_bytes, to_be_bytes}
use Rattle.sha2.specs.Sha256.{sha256}
use Rattle.record_codec.specs.declared.block.TheConstants.{PAYLOAD_MAX, HEADER_SIZE, BLOCK_OVERHEAD}
use Rattle.flowfile_record.specs.declared.limits.TheConstants.{DIGEST_SIZE}
use Rattle.record_codec.specs.declared.block.Block.{Block}
use Rattle.record_codec.specs.declared.block.BlockEnd.{BlockEnd}
use Rattle.record_codec.specs.declared.block.BlockEnd.TheVariants.{Short, TooLong, Digest}

-- the payload's length in four bytes, the kind, the payload, and the SHA-256 digest of the kind and the payload
unfoldable pub block : ℕ → List ℕ → List ℕ
block kind payload = to_be_bytes w32 (length payload) ++ (kind ∷ payload) ++ sha256 (kind ∷ payload)

-- a kind and a payload, and their block
abbrev pub block_of : ℕ × List ℕ → List ℕ
block_of b = block b.0 b.1

abbrev pub IsBlock : ℕ × List ℕ → Type 0
IsBlock b = length b.1 ≤ PAYLOAD_MAX

-- what stands in front of some bytes where a block is wanted
pub data Reading : Type 0 where
  -- a whole block of this kind and payload
  Whole : (kind : ℕ) (payload : List ℕ) → Reading
  -- so many bytes are needed, and these are there
  Cut : (need have : ℕ) → Reading
  -- the header names a payload longer than any
  Long : (size : ℕ) → Reading
  -- the digest that stands there, and that of what stands before it
  Differs : (stored found : List ℕ) → Reading

-- of bytes that are as many as a block of this size needs
abbrev pub tested : List ℕ → ℕ → Reading
tested bytes size =
    let body = take (size + 1) (drop 4 bytes) in
    let stored = take DIGEST_SIZE (drop (size + HEADER_SIZE) bytes) in
    if bytes_eq stored (sha256 body) then Whole (slice_index body 0) (drop 1 body) else Differs stored (sha256 body)

unfoldable pub reading_of : List ℕ → Reading
reading_of bytes =
    let size = from_be_bytes w32 (take 4 bytes) in
    if nat_lt (length bytes) HEADER_SIZE then Cut HEADER_SIZE (length bytes)
    else if nat_lt PAYLOAD_MAX size then Long size
    else if nat_lt (length bytes) (size + BLOCK_OVERHEAD) then Cut (size + BLOCK_OVERHEAD) (length bytes)
    else tested bytes size

-- how many bytes the block has whose header names this size, where so many stand from the header on
abbrev pub sized : (size have : ℕ) → Result ℕ BlockEnd
sized size have =
    if nat_lt PAYLOAD_MAX size then Err (TooLong size)
    else if nat_lt have (size + BLOCK_OVERHEAD) then Err (Short (size + BLOCK_OVERHEAD) have)
    else Ok (size + BLOCK_OVERHEAD)

-- that reading, as the answer to who asks at an offset
abbrev pub answer_at : ℕ → Reading → Result Block BlockEnd
answer_at at (Whole kind payload) =
    Ok (record {
      kind = kind;
      start = at + HEADER_SIZE;
      end = at + HEADER_SIZE + length payload;
      next = at + BLOCK_OVERHEAD + length payload;
    })
answer_at at (Cut need have) = Err (Short need have)
answer_at at (Long size) = Err (TooLong size)
answer_at at (Differs stored found) = Err (Digest stored found)
