-- What an order looks at in a file.
use Rattle.std.specs.Prelude.{ℕ, List, Option}
use Rattle.std.specs.Option.{option_copied}
use Rattle.prioritizer.specs.declared.rank.Rank.{Rank}

-- the attribute `priority`, when the data entered, and which arrival this was
pub record Standing : Type 0 where
  pub priority : Option (List ℕ)
  pub entered : ℕ
  pub arrival : ℕ

abbrev pub standing_of : Rank → Standing
standing_of rank = record { priority = option_copied rank.priority; entered = rank.entered; arrival = rank.arrival }
