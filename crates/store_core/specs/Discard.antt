-- Files that don't matter are cut to nothing.
use Rattle.std.specs.Prelude.{◌≡◌, ◌≢◌, ℕ, ◌<◌, ◌≤◌, ◌==◌, nat_le, Bool, true, false, [], length, Option, None, Some}
use Rattle.disk_trait.specs.Files.{Files, Shortened, named}
use Rattle.disk_trait.specs.declared.file_name.FileKind.{FileKind}
use Rattle.disk_trait.specs.declared.file_name.FileKind.TheVariants.{Log, Snapshot, Swap, Claim, Events}
use Rattle.disk_trait.specs.declared.file_name.FileName.{FileName}
use Rattle.record_codec.specs.Frames.{counts}
use Rattle.store_core.specs.declared.discard.Spared.{Spared}
use Rattle.store_core.specs.declared.discard.Spared.TheVariants.{UpTo, Only}

-- whether a file of this number stays as it is
abbrev pub spares : Spared → ℕ → Bool
spares (UpTo None) n = false
spares (UpTo (Some last)) n = nat_le n last
spares (Only None) n = false
spares (Only (Some one)) n = one == n

-- Of one kind the files that aren't spared are cut to a size, or a stop came within.
pub record CutsKind (kind : FileKind) (spared : ℕ → Bool) (size : ℕ) (old new : Files) : Type 0 where
  pub others : (f : FileName) → f.kind ≢ kind → new f ≡ old f
  pub stay : (n : ℕ) → spared n ≡ true → new (named kind n) ≡ old (named kind n)
  pub each : (f : FileName) → Shortened size (old f) (new f)

-- and they are no longer than it
pub record HasCut (kind : FileKind) (spared : ℕ → Bool) (size : ℕ) (old new : Files) : Type 0 where
  pub step : CutsKind kind spared size old new
  pub short : (n : ℕ) → spared n ≡ false → length (new (named kind n)) ≤ size

-- this log is above the current one; where none is current, each is
abbrev pub IsAbove : Option ℕ → ℕ → Type 0
IsAbove None n = Unit {0}
IsAbove (Some current) n = current < n

-- Files that don't matter get shorter, or go: the current log, its snapshot, all claims and all files of events stay,
-- and a log above the current one that is passed over is passed over still.
pub record Discards (current : Option ℕ) (old new : Files) : Type 0 where
  pub claims : (f : FileName) → f.kind ≡ Claim → new f ≡ old f
  pub events : (f : FileName) → f.kind ≡ Events → new f ≡ old f
  pub log : (n : ℕ) → current ≡ Some n → new (named Log n) ≡ old (named Log n)
  pub snapshot : (n : ℕ) → current ≡ Some n → new (named Snapshot n) ≡ old (named Snapshot n)
  pub shorter : (f : FileName) → Shortened 0 (old f) (new f)
  pub passed : (n : ℕ) → IsAbove current n → counts (old (named Log n)) ≡ false → counts (new (named Log n)) ≡ false

-- beside the log of this number and its snapshot there is no other, and no batch is swapped out
pub record HasNoOthers (current : Option ℕ) (files : Files) : Type 0 where
  pub logs : (n : ℕ) → (current ≡ Some n → ⊥) → files (named Log n) ≡ []
  pub snapshots : (n : ℕ) → (current ≡ Some n → ⊥) → files (named Snapshot n) ≡ []
  pub batches : (n : ℕ) → files (named Swap n) ≡ []
