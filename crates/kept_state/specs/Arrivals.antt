-- The arrivals of files, and sets of numbers.
use Rattle.std.specs.Prelude.{◌≡◌, ℕ, ◌==◌, ◌||◌, ◌&&◌, not, Bool, true, false, List, [], ◌∷◌, Option, None, Some}
use Rattle.std.specs.List.{list_any}
use Rattle.std.specs.Ordering.{nat_cmp}
use Rattle.std.specs.BTreeSet.{BTreeSet, contains, IsOrdered}
use Rattle.flowfile_record.specs.declared.stored.ActiveFile.{ActiveFile}

abbrev pub arrival_of : ActiveFile → ℕ
arrival_of a = a.file.arrival

-- these are the arrivals of the files
pub record AreArrivalsOf (arrivals : BTreeSet ℕ) (files : List ActiveFile) : Type 0 where
  pub ordered : IsOrdered nat_cmp arrivals
  pub members : (n : ℕ) → contains nat_cmp arrivals n ≡ list_any (λ a. arrival_of a == n) files

-- the set of these numbers
pub record IsSetOf (set : BTreeSet ℕ) (numbers : List ℕ) : Type 0 where
  pub ordered : IsOrdered nat_cmp set
  pub members : (n : ℕ) → contains nat_cmp set n ≡ list_any (λ m. m == n) numbers

-- none of the numbers was seen before it
abbrev pub are_fresh : (seen : ℕ → Bool) → List ℕ → Bool
are_fresh seen [] = true
are_fresh seen (n ∷ ns) = not (seen n) && are_fresh (λ m. seen m || (n == m)) ns

-- whether the file is there and has this arrival
abbrev pub has_arrival : ℕ → Option ActiveFile → Bool
has_arrival m None = false
has_arrival m (Some a) = arrival_of a == m
