-- Files that stand in memory.
use Rattle.std.specs.Prelude.{◌≡◌, ℕ, ◌<◌, true, false, List, [], ◌∷◌, Option, None, Some, Vec, length, map, position, slice_index_or, bytes_eq}
use Rattle.std.specs.BTreeMap.{BTreeMap, get}
use Rattle.std.specs.Cmp.Lexicographic.{slice_cmp}
use Rattle.std.specs.List.{AllByRecursion}
use Rattle.std.specs.Ordering.{nat_cmp}
use Rattle.std.specs.declared.alloc.Global.{Global}
use Rattle.flowfile_record.specs.NamedFile.{NamedFile}

-- a file, as an inbox shows it
abbrev pub file_of : List ℕ × Vec ℕ Global → NamedFile
file_of file = record { name = file.0; bytes = file.1.items }

-- the names of the files
abbrev pub names_of : List (List ℕ × Vec ℕ Global) → List (List ℕ)
names_of files = map (λ file. file.0) files

-- no text stands twice
abbrev pub EachOnce : List (List ℕ) → Type 0
EachOnce [] = Unit {0}
EachOnce (name ∷ names) = AllByRecursion (λ other. bytes_eq name other ≡ false) names × EachOnce names

-- the first place where a file of that name stands
pub record IsPlaceOf (name : List ℕ) (files : List (List ℕ × Vec ℕ Global)) (place : ℕ) : Type 0 where
  pub within : place < length files
  pub here : (d : List ℕ × Vec ℕ Global) → bytes_eq (slice_index_or files place d).0 name ≡ true
  pub first : (k : ℕ) (d : List ℕ × Vec ℕ Global) → k < place → bytes_eq (slice_index_or files k d).0 name ≡ false

-- the map, where there is one, has the place of the first file of each name
abbrev pub Indexes : Option (BTreeMap (List ℕ) ℕ) → List (List ℕ × Vec ℕ Global) → Type 0
Indexes None files = Unit {0}
Indexes (Some places) files =
    (name : List ℕ) → get (slice_cmp nat_cmp) places name ≡ position (λ file. bytes_eq file.0 name) files
