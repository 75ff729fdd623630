-- What a snapshot may say: each of its parts has an encoding, and what is kept agrees with itself.
use Rattle.std.specs.Prelude.{◌≡◌, ◌≢◌, ℕ, ◌+◌, ◌<◌, ◌≤◌, List, [], ◌∷◌, length, map, All}
use Rattle.std.specs.List.{sum}
use Rattle.flowfile_record.specs.NumberedItems.{AscendsByNumber}
use Rattle.flowfile_record.specs.Stored.{Kept}
use Rattle.flowfile_record.specs.declared.stored.ActiveFile.{ActiveFile}
use Rattle.flowfile_record.specs.declared.stored.SwapBatch.{SwapBatch}
use Rattle.record_codec.specs.ActiveFile.{IsActiveFile}
use Rattle.record_codec.specs.FileEncoding.{flow_file}
use Rattle.record_codec.specs.Snapshot.{IsBatch}
use Rattle.record_codec.specs.StoreHead.{head, IsHead}
use Rattle.record_codec.specs.declared.TheConstants.{SECOND_VERSION, FORMAT_VERSION}
use Rattle.record_codec.specs.declared.block.TheConstants.{PAYLOAD_MAX}
use Rattle.checkpoint_store.specs.Snapshot.{head_in}
use Rattle.flowfile_record.specs.declared.limits.TheConstants.{LIVE_FILES_MAX, LIVE_BYTES_MAX}

-- no two of these have the same in them
abbrev pub AreDistinctBy : {A B : Type 0} → (A → B) → List A → Type 0
AreDistinctBy part [] = Unit {0}
AreDistinctBy part (x ∷ xs) = All (λ y. part x ≢ part y) xs × AreDistinctBy part xs

-- a file's connection is there, and its number and arrival are at least 1 and below what comes next
pub record IsFileIn (k : Kept) (a : ActiveFile) : Type 0 where
  pub encoded : IsActiveFile a
  pub connection : a.connection < length k.connections
  pub number : a.file.number < k.next_number
  pub first_arrival : 1 ≤ a.file.arrival
  pub arrival : a.file.arrival < k.next_arrival

-- a batch's connection is there, and its number is at least 1 and below what comes next
pub record IsBatchIn (k : Kept) (b : SwapBatch) : Type 0 where
  pub encoded : IsBatch b
  pub connection : b.connection < length k.connections
  pub first : 1 ≤ b.batch
  pub batch : b.batch < k.next_batch

-- how many bytes a flow file's record has
abbrev pub record_size : ActiveFile → ℕ
record_size a = length (flow_file a.file)

-- numbers, arrivals and batches begin at 1
pub record HasCounters (k : Kept) : Type 0 where
  pub next_number : 1 ≤ k.next_number
  pub next_arrival : 1 ≤ k.next_arrival
  pub next_batch : 1 ≤ k.next_batch

-- What is kept agrees with itself and has a snapshot in this version: so in the first one there are no ids of
-- processors and the line is 0, and in the second one each processor has one count.
pub record IsConsistentIn (version : ℕ) (k : Kept) : Type 0 where
  pub encoded : IsHead (head_in version k)
  pub head_size : length (head (head_in version k)) ≤ PAYLOAD_MAX
  pub counts : version ≡ SECOND_VERSION → length k.counts ≡ length k.processors
  pub connections : AreDistinctBy (λ name. name) k.connections
  pub counters : HasCounters k
  pub files : All (IsFileIn k) k.files
  pub numbers : AscendsByNumber (λ a. a.file.number) k.files
  pub arrivals : AreDistinctBy (λ a. a.file.arrival) k.files
  pub batches : All (IsBatchIn k) k.batches
  pub batch_numbers : AscendsByNumber (λ b. b.batch) k.batches
  pub live_files : length k.files + sum (map (λ b. b.files) k.batches) ≤ LIVE_FILES_MAX
  pub live_bytes : sum (map record_size k.files) + sum (map (λ b. b.encoded) k.batches) ≤ LIVE_BYTES_MAX

-- in the version that counts
abbrev pub IsConsistent : Kept → Type 0
IsConsistent k = IsConsistentIn FORMAT_VERSION k
