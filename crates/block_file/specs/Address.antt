-- The block at an address: what is asked of the address, what is read there, and why none is.
use Rattle.std.specs.Prelude.{◌≡◌, ℕ, ◌+◌, ◌<◌, ◌≤◌, Bool, IsTrue, List, length, drop, slice_range, Some}
use Rattle.disk_trait.specs.Files.{Files}
use Rattle.disk_trait.specs.declared.damage.Damage.{Damage}
use Rattle.flowfile_record.specs.declared.limits.TheConstants.{DIGEST_SIZE}
use Rattle.record_codec.specs.Block.{Reading, Whole, reading_of}
use Rattle.record_codec.specs.declared.block.Block.{Block}
use Rattle.record_codec.specs.declared.block.TheConstants.{HEADER_SIZE, PAYLOAD_MAX, BLOCK_OVERHEAD}
use Rattle.block_file.specs.Damage.{damage_in}
use Rattle.block_file.specs.declared.error.BlockError.{BlockError}
use Rattle.block_file.specs.declared.error.BlockError.TheVariants.{Memory, Damaged}
use Rattle.block_file.specs.declared.read.BlockAddress.{BlockAddress}

-- the bytes of the file from there on
abbrev pub bytes_at : Files → BlockAddress → List ℕ
bytes_at files address = drop address.offset (files address.file)

-- what stands there is read so
abbrev pub reading_at : Files → BlockAddress → Reading
reading_at files address = reading_of (bytes_at files address)

-- the offset lies within the file, whose size is right where the disk tells
pub record IsAddress (tells : Bool) (files : Files) (address : BlockAddress) : Type 0 where
  pub within : address.offset ≤ address.size
  pub size : IsTrue tells → address.size ≡ length (files address.file)

-- the payload and the digest of a block lie behind one another in a buffer, and the block within its file; no payload
-- is longer than a block may hold
pub record LiesIn (address : BlockAddress) (buffer : List ℕ) (block : Block) : Type 0 where
  pub start : block.start ≡ HEADER_SIZE
  pub payload : block.start ≤ block.end
  pub longest : block.end ≤ block.start + PAYLOAD_MAX
  pub digest : block.end + DIGEST_SIZE ≡ block.next
  pub buffered : block.next ≤ length buffer
  pub filed : address.offset + block.next ≤ address.size

-- the block that stands there, in a buffer
pub record IsBlockAt (tells : Bool) (files : Files) (address : BlockAddress) (buffer : List ℕ) (block : Block)
    : Type 0 where
  pub read : IsTrue tells → reading_at files address ≡ Whole block.kind (slice_range buffer block.start block.end)
  pub lies : LiesIn address buffer block

-- a whole block of so many bytes
abbrev pub IsBlockOfSize : ℕ → Reading → Type 0
IsBlockOfSize n reading =
    (kind : ℕ) × ((payload : List ℕ) × ((reading ≡ Whole kind payload) × (n ≡ length payload + BLOCK_OVERHEAD)))

-- a whole block stands there, which is longer than this
pub record HasBlockPast (files : Files) (address : BlockAddress) (capacity : ℕ) : Type 0 where
  pub kind : ℕ
  pub payload : List ℕ
  pub whole : reading_at files address ≡ Whole kind payload
  pub long : capacity < length payload + BLOCK_OVERHEAD

-- Why no block is read into a buffer of this capacity. What is damaged is told as it is, whether or not there is
-- memory: that is taken only for a whole block that the buffer has no room for. A buffer with room for the rest of the
-- file takes none, whatever the disk tells.
pub record IsBlockRefusal (tells : Bool) (files : Files) (address : BlockAddress) (capacity : ℕ) (error : BlockError)
    : Type 0 where
  pub damaged : (damage : Damage) → error ≡ Damaged damage → IsTrue tells
      → damage_in address.file address.at (reading_at files address) ≡ Some damage
  pub memory : error ≡ Memory → IsTrue tells → HasBlockPast files address capacity
  pub room : error ≡ Memory → address.offset + capacity < address.size
