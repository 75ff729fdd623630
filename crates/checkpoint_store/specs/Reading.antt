-- What the bytes of a snapshot say: what is kept, or the first damage.
use Rattle.std.specs.Prelude.{ℕ, zero, suc, ◌+◌, ◌==◌, ◌&&◌, ◌||◌, nat_lt, nat_le, not, Bool, true, List, [], ◌∷◌, ◌++◌, length, map, drop, Option, None, Some, Result, Ok, Err, bytes_eq, if◌then◌else◌}
use Rattle.std.specs.List.{sum, list_any}
use Rattle.disk_trait.specs.Files.{Files}
use Rattle.disk_trait.specs.declared.damage.Damage.{Damage}
use Rattle.disk_trait.specs.declared.damage.Damage.TheVariants.{Digest, Short, Form}
use Rattle.disk_trait.specs.declared.file_name.FileName.{FileName}
use Rattle.flowfile_record.specs.Stored.{Kept}
use Rattle.flowfile_record.specs.Reading.{whole}
use Rattle.flowfile_record.specs.declared.stored.ActiveFile.{ActiveFile}
use Rattle.flowfile_record.specs.declared.stored.SwapBatch.{SwapBatch}
use Rattle.block_file.specs.declared.read.BlockAddress.{BlockAddress}
use Rattle.record_codec.specs.ActiveFile.{active_file_at}
use Rattle.record_codec.specs.Block.{Reading, Whole, Cut, Long, Differs, reading_of}
use Rattle.record_codec.specs.Snapshot.{kind_code}
use Rattle.record_codec.specs.SnapshotReading.{batch_at, ending_at}
use Rattle.record_codec.specs.StoreHeadReading.{head_at}
use Rattle.record_codec.specs.declared.TheConstants.{SECOND_VERSION}
use Rattle.record_codec.specs.declared.block.TheConstants.{BLOCK_OVERHEAD}
use Rattle.record_codec.specs.declared.head.Head.{Head}
use Rattle.record_codec.specs.declared.snapshot.SnapshotKind.TheVariants as kinds
use Rattle.checkpoint_store.specs.Consistent.{record_size}
use Rattle.checkpoint_store.specs.Snapshot.{blocks_in}
use Rattle.flowfile_record.specs.declared.limits.TheConstants.{LIVE_FILES_MAX, LIVE_BYTES_MAX}

-- ---- the rules of each kind of block

-- no connection stands twice
abbrev pub are_distinct_names : List (List ℕ) → Bool
are_distinct_names [] = true
are_distinct_names (name ∷ names) = not (list_any (λ other. bytes_eq other name) names) && are_distinct_names names

-- numbers, arrivals and batches begin at 1
abbrev pub has_counters : Head → Bool
has_counters h = nat_lt 0 h.next_number && nat_lt 0 h.next_arrival && nat_lt 0 h.next_batch

-- in the second version each processor has one count
abbrev pub has_counts : Head → Bool
has_counts h = not (h.version == SECOND_VERSION) || (length h.counts == length h.processors)

-- what a Head says is kept, before any file
abbrev pub kept_of_head : Head → Kept
kept_of_head h = record {
  store = h.store;
  flow = h.flow;
  connections = h.connections;
  processors = h.processors;
  counts = h.counts;
  next_number = h.next_number;
  next_arrival = h.next_arrival;
  last_event = h.last_event;
  line = h.line;
  next_batch = h.next_batch;
  files = [];
  batches = [];
}

-- the number of the last of some files or batches, and 0 for none
abbrev pub last_number : {A : Type 0} → (A → ℕ) → List A → ℕ
last_number number [] = 0
last_number number (item ∷ []) = number item
last_number number (item ∷ next ∷ items) = last_number number (next ∷ items)

-- The file stands before the batches and has a greater number than those before it. Its connection is there, its number
-- and its arrival, which is at least 1, are below what comes next, and there is place for one file more.
abbrev pub file_has_place : Kept → ActiveFile → Bool
file_has_place k a =
    (length k.batches == 0)
    && nat_lt (last_number (λ b. b.file.number) k.files) a.file.number
    && nat_lt a.connection (length k.connections)
    && nat_lt a.file.number k.next_number
    && nat_lt 0 a.file.arrival
    && nat_lt a.file.arrival k.next_arrival
    && nat_lt (length k.files) LIVE_FILES_MAX

-- And no file before it has its arrival, and their records stay within the limit.
abbrev pub file_may_join : Kept → ActiveFile → Bool
file_may_join k a =
    file_has_place k a
    && nat_le (sum (map record_size k.files) + record_size a) LIVE_BYTES_MAX
    && not (list_any (λ b. b.file.arrival == a.file.arrival) k.files)

-- The batch has a greater number than those before it. What else has to hold of it is asked where its file is read.
abbrev pub batch_may_follow : Kept → SwapBatch → Bool
batch_may_follow k b = nat_lt (last_number (λ c. c.batch) k.batches) b.batch

-- ---- what a block says

-- one part more of what is kept, or the End
pub data Next : Type 0 where
  More : Kept → Next
  Last : Next

abbrev pub head_next : (version : ℕ) → Result Head ℕ → Option Kept
head_next version (Ok h) =
    if (h.version == version) && are_distinct_names h.connections && has_counters h && has_counts h
    then Some (kept_of_head h) else None
head_next version (Err left) = None

abbrev pub file_next : Kept → Result ActiveFile ℕ → Option Next
file_next k (Ok a) = if file_may_join k a then Some (More (record k { files = k.files ++ a ∷ [] })) else None
file_next k (Err left) = None

abbrev pub batch_next : Kept → Result SwapBatch ℕ → Option Next
batch_next k (Ok b) = if batch_may_follow k b then Some (More (record k { batches = k.batches ++ b ∷ [] })) else None
batch_next k (Err left) = None

abbrev pub end_next : Kept → Result ℕ ℕ → Option Next
end_next k (Ok blocks) = if blocks == blocks_in k then Some Last else None
end_next k (Err left) = None

-- what the first block of a snapshot of this version says
abbrev pub first_block_kept : (version kind : ℕ) → List ℕ → Option Kept
first_block_kept version kind payload =
    if kind == kind_code kinds.Head then head_next version (whole head_at payload) else None

-- what a later block says
abbrev pub next_in : Kept → ℕ → List ℕ → Option Next
next_in k kind payload =
    if kind == kind_code kinds.File then file_next k (whole active_file_at payload)
    else if kind == kind_code kinds.Batch then batch_next k (whole batch_at payload)
    else if kind == kind_code kinds.End then end_next k (whole ending_at payload)
    else None

-- ---- the blocks of a file

-- What follows a block that stands at this offset: it is asked with what the block says and the block's size.
abbrev pub said : {A : Type 0} → FileName → ℕ → ℕ → (A → ℕ → Result Kept Damage) → Option A → Result Kept Damage
said file at size following None = Err (Form file at)
said file at size following (Some a) = following a size

abbrev pub behind_block : {A : Type 0} → FileName → ℕ → (ℕ → List ℕ → Option A) → Reading
    → (A → ℕ → Result Kept Damage) → Result Kept Damage
behind_block file at says (Whole kind payload) following =
    said file at (length payload + BLOCK_OVERHEAD) following (says kind payload)
behind_block file at says (Cut need have) following = Err (Short file at need have)
behind_block file at says (Long size) following = Err (Form file at)
behind_block file at says (Differs stored found) following = Err (Digest file at stored found)

abbrev pub go_on : Kept → ℕ → (Kept → ℕ → Result Kept Damage) → Next → Result Kept Damage
go_on k size following (More more) = following more size
go_on k size following Last = Ok k

-- the blocks behind the Head, of which there are no more than this
abbrev pub blocks_from : (most : ℕ) → FileName → (at : ℕ) → Kept → List ℕ → Result Kept Damage
blocks_from zero file at k bytes = Err (Form file at)
blocks_from (suc most) file at k bytes =
    behind_block file at (next_in k) (reading_of bytes)
    (λ next size. go_on k size (λ more n. blocks_from most file (at + n) more (drop n bytes)) next)

-- the address of the block at an offset of a file of this size
abbrev pub address_of : FileName → ℕ → ℕ → BlockAddress
address_of file size at = record { file = file; size = size; offset = at; at = at }

-- what the blocks from this offset of a file on say, of which there are no more than this
abbrev pub blocks_in_file : (most : ℕ) → Files → FileName → (at : ℕ) → Kept → Result Kept Damage
blocks_in_file most files file at k = blocks_from most file at k (drop at (files file))

-- what the bytes of this file say as a snapshot of this version; no file has more blocks than bytes
abbrev pub snapshot_of : (version : ℕ) → FileName → List ℕ → Result Kept Damage
snapshot_of version file bytes =
    behind_block file 0 (first_block_kept version) (reading_of bytes)
    (λ k size. blocks_from (suc (length bytes)) file size k (drop size bytes))

-- what this file says
abbrev pub snapshot_in : (version : ℕ) → Files → FileName → Result Kept Damage
snapshot_in version files file = snapshot_of version file (files file)
