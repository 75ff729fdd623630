-- Where reading a snapshot may want memory: at a block that stands whole, behind blocks that join one another.
use Rattle.std.specs.Prelude.{◌≡◌, ◌⊎◌, ℕ, ◌+◌, ◌==◌, ◌<◌, ◌≤◌, is_ok, IsTrue, List, length, drop, Some}
use Rattle.flowfile_record.specs.Reading.{Reading, ◌then◌, such, raw_at}
use Rattle.flowfile_record.specs.Stored.{Kept}
use Rattle.flowfile_record.specs.declared.limits.TheConstants.{DIGEST_SIZE}
use Rattle.record_codec.specs.ActiveFile.{active_front_at}
use Rattle.record_codec.specs.Block.{Reading as BlockReading, Whole, Cut, Long, Differs, reading_of}
use Rattle.record_codec.specs.Snapshot.{kind_code}
use Rattle.record_codec.specs.StoreHeadReading.{store_at}
use Rattle.record_codec.specs.Version.{version_at}
use Rattle.record_codec.specs.declared.block.TheConstants.{BLOCK_OVERHEAD}
use Rattle.record_codec.specs.declared.snapshot.SnapshotKind.TheVariants as kinds
use Rattle.checkpoint_store.specs.Reading.{More, first_block_kept, next_in}

-- a Head of this version up to its lists
abbrev pub head_front_at : (version : ℕ) → Reading (ℕ × (ℕ × List ℕ))
head_front_at version = such (λ v. v == version) version_at then store_at then raw_at DIGEST_SIZE

-- The first block may take memory: it is a Head of this version that can be read up to its lists.
pub record FirstTakes (version : ℕ) (bytes : List ℕ) : Type 0 where
  pub payload : List ℕ
  pub whole : reading_of bytes ≡ Whole (kind_code kinds.Head) payload
  pub front : IsTrue (is_ok (head_front_at version payload))

-- the block at this offset stands whole, is no longer than this, ends at the next one, and joins what is kept
pub record Joins (bytes : List ℕ) (longest at next : ℕ) (before now : Kept) : Type 0 where
  pub kind : ℕ
  pub payload : List ℕ
  pub whole : reading_of (drop at bytes) ≡ Whole kind payload
  pub says : next_in before kind payload ≡ Some (More now)
  pub size : next ≡ at + (length payload + BLOCK_OVERHEAD)
  pub fits : length payload + BLOCK_OVERHEAD ≤ longest

-- The blocks before this offset stand whole and join one another. This is what they say, and none is longer than that.
pub data IsReadTo (version : ℕ) (bytes : List ℕ) : ℕ → Kept → ℕ → Type 0 where
  head : (at longest : ℕ) (kind : ℕ) (payload : List ℕ) (k : Kept) → reading_of bytes ≡ Whole kind payload
      → first_block_kept version kind payload ≡ Some k → at ≡ length payload + BLOCK_OVERHEAD → at ≤ longest
      → IsReadTo version bytes at k longest
  more : (at next longest most : ℕ) (before now : Kept) → IsReadTo version bytes at before longest
      → longest ≤ most → Joins bytes most at next before now → IsReadTo version bytes next now most

-- A later block takes memory for what it says. It is a file that can be read up to its first pair of attributes, or it
-- joins what is kept.
abbrev pub PartTakes : Kept → ℕ → List ℕ → Type 0
PartTakes k kind payload =
    ((kind ≡ kind_code kinds.File) × IsTrue (is_ok (active_front_at payload)))
    ⊎ ((now : Kept) × (next_in k kind payload ≡ Some (More now)))

-- It takes memory. It stands whole, and is a file that is longer than any block before it, or takes some for what it
-- says.
abbrev pub BlockTakes : ℕ → Kept → BlockReading → Type 0
BlockTakes longest k (Whole kind payload) =
    ((kind ≡ kind_code kinds.File) × (longest < length payload + BLOCK_OVERHEAD)) ⊎ PartTakes k kind payload
BlockTakes longest k (Cut need have) = ⊥
BlockTakes longest k (Long size) = ⊥
BlockTakes longest k (Differs stored found) = ⊥

pub record LaterTakes (version : ℕ) (bytes : List ℕ) : Type 0 where
  pub at : ℕ
  pub longest : ℕ
  pub kept : Kept
  pub before : IsReadTo version bytes at kept longest
  pub takes : BlockTakes longest kept (reading_of (drop at bytes))

-- reading a snapshot of this version and these bytes may want memory
abbrev pub MayWantMemory : (version : ℕ) → List ℕ → Type 0
MayWantMemory version bytes = FirstTakes version bytes ⊎ LaterTakes version bytes
