-- The past of a disk in memory: its files, and the calls that made them, each with its moment.
use Rattle.std.specs.Prelude.{◌≡◌, ℕ, ◌^◌, ◌<◌, ◌≤◌, nat_le, true, false, slice_index_or, List, [], length, take, count_by, All}
use Rattle.disk_trait.specs.Files.{Files}
use Rattle.disk_trait.specs.Memory.{FileState, durable, state_after, fits, IsImage}
use Rattle.disk_trait.specs.MemoryTable.{bytes_of, first_of, has_file}
use Rattle.disk_trait.specs.declared.file_name.FileName.{FileName}
use Rattle.disk_trait.specs.declared.memory.call.DiskCall.{DiskCall}
use Rattle.disk_trait.specs.declared.memory.call.DiskCall.TheVariants.{Sync}
use Rattle.disk_trait.specs.declared.memory.table.FileTable.{FileTable}

-- the present files, each beside what it began with; the calls that succeeded and their moments; the
-- present moment
pub record Past : Type 0 where
  pub table : FileTable
  pub calls : List DiskCall
  pub moments : List ℕ
  pub now : ℕ

-- a file after the first n calls
unfoldable pub file_after : Past → ℕ → FileName → FileState
file_after past n file = state_after file (durable (first_of past.table file)) (take n past.calls)

-- how many of the calls came up to a moment
unfoldable pub calls_until : Past → ℕ → ℕ
calls_until past k = count_by (λ moment. nat_le moment k) past.moments

-- a file at a moment
abbrev pub file_at : Past → ℕ → FileName → FileState
file_at past k file = file_after past (calls_until past k) file

-- what a stop at a moment may leave
unfoldable pub left_at : Past → ℕ → Files → Type 0
left_at past k files = (f : FileName) → IsImage (file_at past k f) (files f)

-- The calls made the files what they are, and each write fits. What was held after each call might be left,
-- a file with no entry was always empty, and one under a number that no call can name never grew.
pub record IsPast (past : Past) : Type 0 where
  pub paired : length past.moments ≡ length past.calls
  pub passed : All (λ moment. moment ≤ past.now) past.moments
  pub made : (f : FileName) → bytes_of past.table f ≡ (file_after past (length past.calls) f).held
  pub inside : (n : ℕ) (f : FileName) → n < length past.calls
      → fits f (slice_index_or past.calls n Sync) (file_after past n f) ≡ true
  pub sound : (n : ℕ) (f : FileName) → IsImage (file_after past n f) (file_after past n f).held
  pub absent : (n : ℕ) (f : FileName) → has_file past.table f ≡ false
      → ((file_after past n f).held ≡ []) × ((file_after past n f).synced ≡ [])
  pub ends : (n : ℕ) (f : FileName) → 2 ^ 64 ≤ f.number → (file_after past n f).greatest ≡ 0
