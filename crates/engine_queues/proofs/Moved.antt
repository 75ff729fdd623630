-- The sources of which some have been moved past a name that was taken, or back to one that is left again.
use Rattle.std.proofs.Common.{◌≡◌, ℕ, ◌<◌, ◌≤◌, Bool, List}
use Rattle.std.specs.Prelude.{Option, Some, slice_get}
use Rattle.engine_queues.specs.declared.listing.Source.{Source}
use Rattle.engine_queues.specs.ListingInside.{StillSuits}

-- the sources before an index have been moved, and the others are as they were
pub record AreMovedBelow (mark : Bool) (taken : List Bool) (place index : ℕ) (was now : List (Option Source)) : Type 0 where
  pub moved : (k : ℕ) (before after : Option Source) → k < index → slice_get was k ≡ Some before → slice_get now k ≡ Some after → StillSuits mark taken place before after
  pub others : (k : ℕ) → index ≤ k → slice_get now k ≡ slice_get was k
