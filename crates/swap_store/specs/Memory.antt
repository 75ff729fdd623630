-- Where reading a batch may want memory: at a block that stands whole, after blocks that join one another.
use Rattle.std.specs.Prelude.{◌≡◌, ◌⊎◌, ℕ, ◌+◌, ◌<◌, ◌≤◌, is_ok, IsTrue, List, [], length, drop, Some}
use Rattle.flowfile_record.specs.declared.flow_file.FlowFile.{FlowFile}
use Rattle.record_codec.specs.ActiveFile.{active_front_at}
use Rattle.record_codec.specs.Block.{Reading, Whole, Cut, Long, Differs, reading_of}
use Rattle.record_codec.specs.Snapshot.{kind_code}
use Rattle.record_codec.specs.declared.block.TheConstants.{BLOCK_OVERHEAD}
use Rattle.record_codec.specs.declared.snapshot.SnapshotKind.TheVariants as kinds
use Rattle.swap_store.specs.Reading.{Adds, step_in}

-- the block at this offset stands whole, is no longer than this, ends at the next one, and joins these files
pub record JoinsBatch (bytes : List ℕ) (longest at next : ℕ) (before now : List FlowFile) : Type 0 where
  pub kind : ℕ
  pub payload : List ℕ
  pub whole : reading_of (drop at bytes) ≡ Whole kind payload
  pub says : step_in before kind payload ≡ Some (Adds now)
  pub size : next ≡ at + (length payload + BLOCK_OVERHEAD)
  pub fits : length payload + BLOCK_OVERHEAD ≤ longest

-- The blocks before this offset stand whole and join one another. These are their files, and none is longer than that.
pub data BatchIsReadTo (bytes : List ℕ) : ℕ → List FlowFile → ℕ → Type 0 where
  start : BatchIsReadTo bytes 0 [] 0
  more : (at next longest most : ℕ) (before now : List FlowFile) → BatchIsReadTo bytes at before longest → longest ≤ most
      → JoinsBatch bytes most at next before now → BatchIsReadTo bytes next now most

-- A block takes memory for what it says. It is a file that can be read up to its first pair of attributes, or it joins
-- these files.
abbrev pub BatchPartTakes : List FlowFile → ℕ → List ℕ → Type 0
BatchPartTakes files kind payload =
    ((kind ≡ kind_code kinds.File) × IsTrue (is_ok (active_front_at payload)))
    ⊎ ((more : List FlowFile) × (step_in files kind payload ≡ Some (Adds more)))

-- It takes memory. It stands whole, and is longer than this, or takes some for what it says.
abbrev pub BatchBlockTakes : ℕ → List FlowFile → Reading → Type 0
BatchBlockTakes longest files (Whole kind payload) =
    (longest < length payload + BLOCK_OVERHEAD) ⊎ BatchPartTakes files kind payload
BatchBlockTakes longest files (Cut need have) = ⊥
BatchBlockTakes longest files (Long size) = ⊥
BatchBlockTakes longest files (Differs stored found) = ⊥

-- Reading a swap file of these bytes may want memory: it comes to a block that is longer than each before it, or takes
-- memory for what it says.
pub record BatchWantsMemory (bytes : List ℕ) : Type 0 where
  pub at : ℕ
  pub longest : ℕ
  pub files : List FlowFile
  pub before : BatchIsReadTo bytes at files longest
  pub takes : BatchBlockTakes longest files (reading_of (drop at bytes))
