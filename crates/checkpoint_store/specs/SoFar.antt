-- A snapshot that is read as far as some block.
use Rattle.std.specs.Prelude.{◌≡◌, ℕ, suc, ◌+◌, ◌==◌, ◌<◌, ◌≤◌, Bool, true, false, IsTrue, List, [], length, map, All, Option, IfSome, MatchOption, Ok}
use Rattle.std.specs.List.{sum, list_any}
use Rattle.std.specs.Ordering.{nat_cmp}
use Rattle.std.specs.BTreeSet.{contains, IsOrdered}
use Rattle.disk_trait.specs.Files.{Files}
use Rattle.flowfile_record.specs.Stored.{Kept, kept_of}
use Rattle.flowfile_record.specs.declared.limits.TheConstants.{NUMBER_LIMIT, LIVE_FILES_MAX, LIVE_BYTES_MAX}
use Rattle.record_codec.specs.declared.block.TheConstants.{PAYLOAD_MAX, BLOCK_OVERHEAD}
use Rattle.checkpoint_store.specs.Consistent.{IsConsistentIn, record_size}
use Rattle.checkpoint_store.specs.Memory.{Joins}
use Rattle.checkpoint_store.specs.Reading.{Next, More, Last, last_number, blocks_in_file}
use Rattle.checkpoint_store.specs.Snapshot.{head_block}
use Rattle.checkpoint_store.specs.declared.reading.Source.{Source}
use Rattle.checkpoint_store.specs.declared.so_far.SoFar.{SoFar}

-- the numbers of some items, as far as a reader has to know them
pub record AreNumberedTo {A : Type 0} (number : A → ℕ) (items : List A) (greatest : ℕ) : Type 0 where
  pub last : greatest ≡ last_number number items
  pub below : All (λ item. number item ≤ greatest) items
  pub count : length items ≤ greatest
  pub limit : greatest < NUMBER_LIMIT

-- what is kept beside the state itself, which agrees with itself as long as no batch has joined it
pub record IsSoFar (s : SoFar) : Type 0 where
  pub files : AreNumberedTo (λ a. a.file.number) s.state.files.items s.last_file
  pub batches : AreNumberedTo (λ b. b.batch) s.state.batches.items s.last_batch
  pub arrivals : (n : ℕ) → contains nat_cmp s.arrivals n ≡ list_any (λ a. a.file.arrival == n) s.state.files.items
  pub ordered : IsOrdered nat_cmp s.arrivals
  pub bytes : s.bytes ≡ sum (map record_size s.state.files.items)
  pub within : s.bytes ≤ LIVE_BYTES_MAX
  pub few : length s.state.files.items ≤ LIVE_FILES_MAX
  pub head_end : s.head_end ≡ length (head_block s.version (kept_of s.state))
  pub head_size : s.head_end ≤ PAYLOAD_MAX + BLOCK_OVERHEAD
  pub consistent : s.state.batches.items ≡ [] → IsConsistentIn s.version (kept_of s.state)

-- the End, or one part more
abbrev pub next_is : Bool → Kept → Next
next_is true k = Last
next_is false k = More k

-- The block at this offset was read, into a buffer of this capacity: it joins those before it, and the next one begins
-- behind it; or it is the End.
pub record HasReadBlock (tells : Bool) (files : Files) (source : Source) (at capacity : ℕ) (old new : SoFar)
    (next : Option ℕ) : Type 0 where
  pub so_far : IsSoFar new
  pub version : new.version ≡ old.version
  pub within : MatchOption next (Unit {0}) (λ n. (at < n) × (n ≤ source.size))
  pub says : IsTrue tells → (most : ℕ) → MatchOption next
      (blocks_in_file (suc most) files source.file at (kept_of old.state) ≡ Ok (kept_of new.state))
      (λ n. blocks_in_file (suc most) files source.file at (kept_of old.state)
      ≡ blocks_in_file most files source.file n (kept_of new.state))
  pub joins : IsTrue tells
      → IfSome next (λ n. Joins (files source.file) capacity at n (kept_of old.state) (kept_of new.state))
