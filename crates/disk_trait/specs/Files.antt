-- Files, and what a call does to one of them.
use Rattle.std.specs.Prelude.{◌≡◌, ◌≢◌, ℕ, ◌+◌, ◌≤◌, min, max, List, ◌++◌, length, take, drop}
use Rattle.disk_trait.specs.declared.file_name.FileKind.{FileKind}
use Rattle.disk_trait.specs.declared.file_name.FileName.{FileName}

-- the bytes of each file; an absent file is an empty one
abbrev pub Files : Type 0
Files = FileName → List ℕ

-- the file of this kind and number
abbrev pub named : FileKind → ℕ → FileName
named kind n = record { kind = kind; number = n }

-- a step on one file, which leaves each other file as it was
pub record At (file : FileName) (step : List ℕ → List ℕ → Type 0) (old new : Files) : Type 0 where
  pub here : step (old file) (new file)
  pub others : (f : FileName) → f ≢ file → new f ≡ old f

-- a file with these bytes written over it from an offset on
abbrev pub Overwritten : ℕ → List ℕ → List ℕ → List ℕ → Type 0
Overwritten at bytes old new = new ≡ take at old ++ bytes ++ drop (at + length bytes) old

-- After a write of n bytes that was cut short: any bytes in the range, the same elsewhere, and a length
-- between that of before and that of the whole write.
pub record Torn (at n : ℕ) (old new : List ℕ) : Type 0 where
  pub front : take at new ≡ take at old
  pub back : drop (at + n) new ≡ drop (at + n) old
  pub no_shorter : length old ≤ length new
  pub no_longer : length new ≤ max (length old) (at + n)

-- After a cut to n bytes that was cut short: the same first n bytes, any bytes past them, and a length
-- between that of the cut and that of before.
pub record Shortened (n : ℕ) (old new : List ℕ) : Type 0 where
  pub front : take n new ≡ take n old
  pub no_shorter : min n (length old) ≤ length new
  pub no_longer : length new ≤ length old
