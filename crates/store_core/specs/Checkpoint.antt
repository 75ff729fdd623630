-- What a checkpoint does to the files: the next log takes over behind a snapshot, and the one of before goes.
use Rattle.std.specs.Prelude.{◌≡◌, ◌⊎◌, ℕ, ◌+◌, ◌≤◌, List, [], ◌++◌}
use Rattle.disk_trait.specs.Files.{Files, Shortened}
use Rattle.disk_trait.specs.declared.file_name.FileName.{FileName}
use Rattle.flowfile_record.specs.Stored.{Kept}
use Rattle.record_codec.specs.Frames.{IsPassedOver}
use Rattle.record_codec.specs.declared.TheConstants.{FORMAT_VERSION}
use Rattle.checkpoint_store.specs.Begun.{IsBegun, log_file}
use Rattle.checkpoint_store.specs.Snapshot.{snapshot, snapshot_file}
use Rattle.store_core.specs.Touched.{TouchesOnly, OnlyShortens}

-- the log of this number, and its snapshot
abbrev pub IsOfNumber : ℕ → FileName → Type 0
IsOfNumber number f = (f ≡ log_file number) ⊎ (f ≡ snapshot_file number)

-- each log from this number on is passed over
abbrev pub ArePassedOver : ℕ → Files → Type 0
ArePassedOver number files = (n : ℕ) → number ≤ n → IsPassedOver (files (log_file n))

-- the log of this number is current and has its Begin alone, and its snapshot says this
pub record HasTakenOver (number : ℕ) (k : Kept) (files : Files) : Type 0 where
  pub log : IsBegun FORMAT_VERSION number files
  pub snapshot : (rest : List ℕ) × (files (snapshot_file number) ≡ snapshot FORMAT_VERSION k ++ rest)

-- The snapshot of this number is written and its log is begun, which is passed over until it takes over.
pub record TakesOver (number : ℕ) (k : Kept) (old new : Files) : Type 0 where
  pub others : TouchesOnly (IsOfNumber number) old new
  pub log : ArePassedOver number new ⊎ HasTakenOver number k new

-- the log of this number and its snapshot get shorter
pub record Drops (number : ℕ) (old new : Files) : Type 0 where
  pub others : TouchesOnly (IsOfNumber number) old new
  pub shorter : (f : FileName) → Shortened 0 (old f) (new f)

-- nothing is left of them
abbrev pub AreGone : ℕ → Files → Type 0
AreGone number files = (files (log_file number) ≡ []) × (files (snapshot_file number) ≡ [])

-- A checkpoint behind the log of this number: the next log and its snapshot are written, this one and its own get
-- shorter, and each other file is as it was.
pub record Checkpoints (number : ℕ) (old new : Files) : Type 0 where
  pub others : TouchesOnly (λ f. IsOfNumber number f ⊎ IsOfNumber (number + 1) f) old new
  pub shorter : OnlyShortens (IsOfNumber (number + 1)) old new
