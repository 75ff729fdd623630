-- What a disk in memory shows.
use Rattle.std.specs.Prelude.{◌≡◌, ℕ, List, []}
use Rattle.disk_trait.specs.Files.{Files}
use Rattle.disk_trait.specs.Images.{IsOnly}
use Rattle.disk_trait.specs.Memory.{FileState}
use Rattle.disk_trait.specs.MemoryHistory.{past_of}
use Rattle.disk_trait.specs.MemoryPast.{file_at, left_at}
use Rattle.disk_trait.specs.MemoryTable.{bytes_of}
use Rattle.disk_trait.specs.declared.file_name.FileName.{FileName}
use Rattle.disk_trait.specs.declared.memory.MemoryDisk.{MemoryDisk}
use Rattle.disk_trait.specs.declared.memory.call.DiskCall.{DiskCall}

-- what a read gives
abbrev pub held_by : MemoryDisk → Files
held_by disk = bytes_of disk.history.table

-- what a stop at a moment may leave
abbrev pub left_by : MemoryDisk → ℕ → Files → Type 0
left_by disk k files = left_at (past_of disk.history) k files

-- how many calls changed something, or failed to
abbrev pub moment_of : MemoryDisk → ℕ
moment_of disk = disk.history.moment

-- the calls that succeeded
abbrev pub recorded : MemoryDisk → List DiskCall
recorded disk = disk.history.done.calls.items

-- a file at a moment
abbrev pub state_at : MemoryDisk → ℕ → FileName → FileState
state_at disk k file = file_at (past_of disk.history) k file

-- nothing that is held changed, and no call was recorded
pub record IsUndone (old new : MemoryDisk) : Type 0 where
  pub held : (f : FileName) → held_by new f ≡ held_by old f
  pub calls : recorded new ≡ recorded old

-- a disk that no call was made to: none fails, nothing failed, and nothing is pending
pub record IsAnew (disk : MemoryDisk) : Type 0 where
  pub synced : IsOnly (held_by disk) (left_by disk 0)
  pub moment : moment_of disk ≡ 0
  pub calls : recorded disk ≡ []
  pub faults : disk.counted.faults ≡ 0
  pub count : disk.counted.count ≡ 0
  pub failing : disk.counted.failing.items ≡ []
