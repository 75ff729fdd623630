-- Files that are taken and put one after the other.
use Rattle.std.specs.Prelude.{◌≡◌, ℕ, Bool, List, [], ◌∷◌, Option, None, Some, is_some}
use Rattle.std.specs.List.{list_all}
use Rattle.flowfile_record.specs.NumberedItems.{with_item}
use Rattle.flowfile_record.specs.declared.stored.ActiveFile.{ActiveFile}
use Rattle.checkpoint_store.specs.Consistent.{record_size}
use Rattle.kept_state.specs.Applied.{active_number}
use Rattle.kept_state.specs.Fits.{active_of}

-- how many bytes the record of this file has
abbrev pub record_size_of : Option ActiveFile → ℕ
record_size_of None = 0
record_size_of (Some a) = record_size a

-- the files of these numbers are active
abbrev pub are_all_active : List ActiveFile → List ℕ → Bool
are_all_active files numbers = list_all (λ n. is_some (active_of n files)) numbers

-- each of the placed files has a number that none has when it joins
abbrev pub AreAbsent : List ActiveFile → List ActiveFile → Type 0
AreAbsent [] files = Unit {0}
AreAbsent (a ∷ placed) files = (active_of a.file.number files ≡ None)
    × AreAbsent placed (with_item active_number a files)
